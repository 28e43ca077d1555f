use Rattle.std.proofs.Common.{ℕ, List, [], get_or}
use Rattle.words.specs.Automata.{Automaton}
use Rattle.tray.proofs.Memories.{same_memory_chain}
use Rattle.calls.specs.declared.call.Call.{Call}
use Rattle.calls.specs.declared.call.Call.TheVariants.{Place}
use Rattle.calls.specs.Buffers.{held}
use Rattle.calls.specs.Lent.{Lent, lent_by}
use Rattle.calls.specs.Promise.{terms}
use Rattle.calls.proofs.Feeding.{fed_next, fed_all, step_under}
use Rattle.calls.proofs.Stepping.{desk}
use Rattle.calls.proofs.running.replay.Goals as goal

pub loop-call-preserved : goal.loop-call-preserved
loop-call-preserved g c =
    let calls : List Call = c.args.calls.now in
    let i : ℕ = c.loop-call.call-index in
    let other : Call = Place 0 (record { ref_ptr = (0, 0); now = [] }) in
    let lent : Lent = lent_by g.row.STATES g.row.PAIRS g.row.SETS g.row.LINKS in
    let size : ℕ = g.B.Book.size c.args.book.now in
    let a : ℕ → Automaton = g.B.Book.automaton c.args.book.now in
    let holds : ℕ → List ℕ → Type 0 = g.B.Book.holds c.args.book.now in
    let before = c.loop-call.invariant in
    let s = step_under c.args.settings lent size a holds (get_or calls i other) c.loop-call.tray.control c.loop-call.tray.tables.now
    (held c.loop-call.output) c.make.new.tray.control c.make.new.tray.tables.now (held c.make.new.output) c.make.result before.3
    c.make.ensures.step before.1 before.4 in (
      same_memory_chain c.open.new.self c.loop-call.tray c.make.new.tray before.0 c.make.ensures.owners,
      s.0,
      fed_next (terms c.args.settings lent size a) holds calls i other (desk [] (held c.args.output.now)) (desk before.1 (held c.loop-call.output))
          (desk s.0 (held c.make.new.output)) c.loop-call-test.true before.2 (c.make.result, s.1),
      s.2,
      s.3,
    )

pub returns-clause-replays : goal.returns-clause-replays
returns-clause-replays g c =
    let lent : Lent = lent_by g.row.STATES g.row.PAIRS g.row.SETS g.row.LINKS in
    let size : ℕ = g.B.Book.size c.args.book.now in
    let a : ℕ → Automaton = g.B.Book.automaton c.args.book.now in
    let holds : ℕ → List ℕ → Type 0 = g.B.Book.holds c.args.book.now in
    let before = c.loop-call.invariant in
    let s = step_under c.args.settings lent size a holds c.args.next c.loop-call.tray.control c.loop-call.tray.tables.now
    (held c.loop-call.output) c.make-2.new.tray.control c.make-2.new.tray.tables.now (held c.make-2.new.output) c.make-2.result before.3
    c.make-2.ensures.step before.1 before.4 in (
      c.in_ok-open.ensures.opens.0,
      desk before.1 (held c.loop-call.output),
      s.0,
      fed_all (terms c.args.settings lent size a) holds c.args.calls.now c.loop-call.call-index (desk [] (held c.args.output.now))
          (desk before.1 (held c.loop-call.output)) c.loop-call-test.false before.2,
      s.1,
      s.2,
      s.3,
    )
