use Rattle.std.proofs.Common.{ℕ, List}
use Rattle.words.specs.Automata.{Automaton}
use Rattle.calls.specs.Lent.{lent_by}
use Rattle.tray.proofs.Memories.{same_memory, same_memory_chain}
use Rattle.reading.proofs.Stepping.{come_none, come_one, come_refused, come_all}
use Rattle.reading.proofs.building.build.Goals as goal

pub loop-step-init : goal.loop-step-init
loop-step-init g c = (
  same_memory c.args.tray.now,
  c.count-below.ensures,
  come_none (lent_by g.row.STATES g.row.PAIRS g.row.SETS g.row.LINKS) (g.B.Book.size c.args.book.now) (g.B.Book.automaton c.args.book.now) (g.B.Book.holds c.args.book.now) c.args.steps.now
      c.args.tray.now.control c.args.tray.now.tables.now (0, 0),
)

pub loop-step-preserved : goal.loop-step-preserved
loop-step-preserved g c =
    let size : ℕ = g.B.Book.size c.args.book.now in
    let automaton : ℕ → Automaton = g.B.Book.automaton c.args.book.now in
    let holds : ℕ → List ℕ → Type 0 = g.B.Book.holds c.args.book.now in
    let before = c.loop-step.invariant in (
      same_memory_chain c.args.tray.now c.loop-step.tray c.make_step.new.tray before.0 c.make_step.ensures.owners,
      before.1,
      come_one (lent_by g.row.STATES g.row.PAIRS g.row.SETS g.row.LINKS) size automaton holds c.args.steps.now c.args.tray.now.control c.args.tray.now.tables.now
          c.loop-step.step-index _ c.loop-step-test.true c.loop-step.tray.control c.loop-step.tray.tables.now c.loop-step.counts before.2
          c.make_step.new.tray.control c.make_step.new.tray.tables.now c.in-Ok.answer c.in-Ok.ensures.steps,
    )

pub returns-in-Err-clause-builds : goal.returns-in-Err-clause-builds
returns-in-Err-clause-builds g c = λ enough.
    let size : ℕ = g.B.Book.size c.args.book.now in
    let automaton : ℕ → Automaton = g.B.Book.automaton c.args.book.now in
    let holds : ℕ → List ℕ → Type 0 = g.B.Book.holds c.args.book.now in
    let before = c.loop-step.invariant in
    let x = come_refused (lent_by g.row.STATES g.row.PAIRS g.row.SETS g.row.LINKS) size automaton holds c.args.steps.now c.args.tray.now.control c.args.tray.now.tables.now
    c.loop-step.step-index _ c.loop-step-test.true c.loop-step.tray.control c.loop-step.tray.tables.now c.loop-step.counts before.2
    c.make_step.new.tray.control c.make_step.new.tray.tables.now c.in-Err.why c.in-Err.ensures.steps c.of_call.result.place c.of_call.ensures.place
    c.count-below.result before.1 c.drop_to.new.tray.control c.drop_to.new.tray.tables.now c.drop_to.ensures.leaves enough in
    (c.in-Err.why, c.of_call.ensures.reason, x.0, x.1)

pub returns-clause-builds : goal.returns-clause-builds
returns-clause-builds g c =
    come_all (lent_by g.row.STATES g.row.PAIRS g.row.SETS g.row.LINKS) (g.B.Book.size c.args.book.now) (g.B.Book.automaton c.args.book.now) (g.B.Book.holds c.args.book.now) c.args.steps.now
    c.args.tray.now.control c.args.tray.now.tables.now c.loop-step.step-index c.loop-step.tray.control c.loop-step.tray.tables.now c.loop-step.counts
    c.loop-step-test.false c.loop-step.invariant.2
