-- How the six marks are written.
use Rattle.std.specs.Prelude.{ℕ, cond, ◌==◌, Some, None, Option}
use Rattle.tokens.specs.declared.mark.Mark.{Mark}
use Rattle.tokens.specs.declared.mark.Mark.TheVariants.{Not, Both, Either, Implies, Some as some-mark, Every}

-- 126 is the tilde, 38 the ampersand, 124 the bar, 62 the greater-than sign, 63 the question mark and 33 the exclamation mark
abbrev pub mark_of : ℕ → Option Mark
mark_of b =
    cond (b == 126) (Some Not) (cond (b == 38) (Some Both) (cond (b == 124) (Some Either) (cond (b == 62) (Some Implies)
    (cond (b == 63) (Some some-mark) (cond (b == 33) (Some Every) None)))))
