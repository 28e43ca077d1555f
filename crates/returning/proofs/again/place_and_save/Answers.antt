use Rattle.std.proofs.Common.{◌≡◌, [], ◌∷◌, length, ◌∙◌, subst, arith}
use Rattle.calls.specs.declared.call.Call.TheVariants.{Place, Save}
use Rattle.calls.specs.Buffers.{held}
use Rattle.calls.specs.Lent.{lent_for}
use Rattle.calls.specs.Promise.{Replays}
use Rattle.loading.specs.Loaded.{size, automaton, holds}
use Rattle.returning.proofs.Returned.{first_sets}
use Rattle.returning.proofs.again.place_and_save.Goals as goal

pub returns-clause-saves : goal.returns-clause-saves
returns-clause-saves g c =
    let b = c.args.book.now in
    let sets : c.from.result ≡ b.places = omega (arith, c.from.ensures, c.places.ensures) in (
      c.args.listed,
      c.requires ∙ first_sets b.places b.few_places,
      subst (λ s. Replays (record { sets = s; budget = c.args.budget; depth = 1 }) (lent_for g.row.STATES) (size b) (automaton b) (holds b) (length c.args.tray.now.spare.now)
          c.args.tray.now.control c.args.tray.now.tables.now (held c.args.output.now) (Place 0 c.args.listed ∷ []) Save
          c.replay.new.tray.control c.replay.new.tray.tables.now (held c.replay.new.output) c.replay.result) sets c.replay.ensures.replays,
    )
