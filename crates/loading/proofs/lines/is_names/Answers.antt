use Rattle.std.proofs.Common.{inl, inr, arith}
use Rattle.loading.proofs.Names.{names_short}
use Rattle.loading.proofs.lines.is_names.Goals as goal

pub returns-in-None : goal.returns-in-None
returns-in-None c = (λ e. cc, λ is. absurd (elim c.in-None.ensures.0 [ inl many ↦ omega (arith, is.0) | inr short ↦ omega (arith, names_short c.args.places is.0) ]))
