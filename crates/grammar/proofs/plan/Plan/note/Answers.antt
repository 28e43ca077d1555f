use Rattle.std.proofs.Common.{◌≡◌, ℕ, true, List, take, slice_set, Some, sym, arith}
use Rattle.grammar.specs.declared.step.Spot.{Spot}
use Rattle.grammar.specs.Claims.{is_position}
use Rattle.grammar.specs.Written.{Notes}
use Rattle.grammar.proofs.Noting.{notes_bound, notes_set_letter, notes_again, notes_first, among_either, among_free, among_bound}
use Rattle.grammar.proofs.plan.Plan.note.Goals as goal
use Rattle.grammar.proofs.plan.Plan.note.Goals.{else-free-via-then-free+then-is_ascii_lowercase+else-is_none, else-free-via-then-free+else-is_ascii_lowercase, else-free-via-else-free}

pub returns-then-is_none-clause-notes : goal.returns-then-is_none-clause-notes
returns-then-is_none-clause-notes c =
    let x : Spot = c.args.spot in
    let letters : List ℕ = take c.args.depth c.args.self.now.bound in
    let noted = slice_set c.args.self.now.free c.from-set.result (Some x.place) in
    let position : is_position x ≡ true = sym c.if-is_ascii_lowercase.ensures.value in
    λ spots notes. among_free letters x (Notes noted) spots (sym c.if-free.ensures.value)
    (notes_first c.args.self.now.free spots notes x c.from-set.result c.from-set.ensures position (omega (arith, c.from-set.ensures, c.requires.small))
    c.if-is_none.ensures)

pub returns-else-free-clause-notes : goal.returns-else-free-clause-notes
returns-else-free-clause-notes c =
    let x : Spot = c.args.spot in
    let letters : List ℕ = take c.args.depth c.args.self.now.bound in
    let noted = c.args.self.now.free in
    λ spots notes. elim c.else-free.branch [
      | else-free-via-then-free+then-is_ascii_lowercase+else-is_none w ↦
          among_free letters x (Notes noted) spots (sym w.if-free.ensures.value)
          (notes_again noted spots notes x c.from-set.result c.from-set.ensures w.if-is_none.ensures)
      | else-free-via-then-free+else-is_ascii_lowercase w ↦
          among_either letters x (Notes noted) spots (notes_bound noted spots notes)
          (notes_set_letter noted spots notes x (sym w.if-is_ascii_lowercase.ensures.value))
      | else-free-via-else-free w ↦ among_bound letters x (Notes noted) spots (sym w.if-free.ensures.value) (notes_bound noted spots notes)
    ]
