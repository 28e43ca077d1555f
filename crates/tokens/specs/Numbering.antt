-- The sets of letters: 0, 1 and on, by first appearance.
use Rattle.std.specs.Prelude.{ℕ, ◌+◌, cond, List, [], ◌∷◌, ◌==◌}

-- the place of a letter among those that have appeared, or the next one behind them
abbrev pub set_of : ℕ → List ℕ → ℕ
set_of x [] = 0
set_of x (y ∷ ys) = cond (y == x) 0 (set_of x ys + 1)

-- the letters that have appeared, with one more; each stands there once
abbrev pub noted : ℕ → List ℕ → List ℕ
noted x [] = x ∷ []
noted x (y ∷ ys) = cond (y == x) (y ∷ ys) (y ∷ noted x ys)
