use Rattle.std.proofs.Common.{get_or, take, ap, ◌∙◌, arith}
use Rattle.std.proofs.lemmas.List.{length-set}
use Rattle.grammar.specs.declared.step.Spot.{Spot}
use Rattle.grammar.proofs.Placing.{notes_more, sets_more}
use Rattle.grammar.proofs.plan.Plan.place.Goals as goal

pub loop-i-preserved : goal.loop-i-preserved
loop-i-preserved c =
    let inv = c.loop-i.invariant in
    let none : Spot = record { place = 0; letter = 0; set = 0 } in
    record {
      four = length-set c.loop-i.sets c.loop-i.i (get_or c.args.spots.now c.loop-i.i none).set ∙ inv.four;
      used = c.note.ensures.same.0 ∙ inv.used;
      steps = c.note.ensures.same.1 ∙ inv.steps;
      bound = c.note.ensures.same.2 ∙ inv.bound;
      notes = notes_more c.args.spots.now c.loop-i.i none c.loop-i-test.true (take c.args.depth c.loop-i.self.bound) (take c.args.depth c.args.self.now.bound)
          c.args.self.now.free c.loop-i.self.free c.note.new.self.free (ap (take c.args.depth) inv.bound) inv.notes c.note.ensures.notes;
      sets = sets_more c.args.spots.now c.loop-i.i none c.loop-i-test.true c.loop-i.sets (omega (arith, c.loop-i-test.true, c.requires.few, inv.four)) inv.sets;
    }
