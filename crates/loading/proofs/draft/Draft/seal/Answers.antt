use Rattle.loading.proofs.Sealings.{name_stable}
use Rattle.loading.proofs.draft.Draft.seal.Goals as goal

pub fill-requires-clause-named : goal.fill-requires-clause-named
fill-requires-clause-named c = name_stable c.args.name.now c.in_default.ensures.1.0
