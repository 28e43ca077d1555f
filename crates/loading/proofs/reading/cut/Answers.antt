use Rattle.std.proofs.Common.{sym, ap₂, ◌∙◌}
use Rattle.loading.proofs.Cuttings.{cut_at, cut_none}
use Rattle.loading.proofs.reading.cut.Goals as goal

pub returns-in-Some : goal.returns-in-Some
returns-in-Some c =
    let found = c.in-Some.ensures in
    ap₂ (λ x y. (x, y)) c.split_at.ensures.front c.split_at.ensures.back ∙ sym (cut_at c.args.text.now c.in-Some.at found.0 found.1 found.2)

pub returns-in-None : goal.returns-in-None
returns-in-None c = sym (cut_none c.args.text.now c.in-None.ensures)
