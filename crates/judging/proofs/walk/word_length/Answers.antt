use Rattle.std.proofs.Common.{refl, sym, subst}
use Rattle.judging.specs.Walk.{FirstLong}
use Rattle.judging.proofs.Walks.{links_long}
use Rattle.judging.proofs.walk.word_length.Goals as goal

pub returns : goal.returns
returns c =
    let ran = c.count.ensures.ran in
    subst (FirstLong c.args.rows.now c.args.state) (sym ran.2) (links_long c.args.rows.now ran.0 _ _ ran.1.0 refl ran.1.1.1 ran.1.1.2)
