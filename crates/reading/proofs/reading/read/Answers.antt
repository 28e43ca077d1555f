use Rattle.std.proofs.Common.{◌≡◌, None, length, take, map, sym, subst, arith}
use Rattle.std.proofs.lemmas.List.{length-take-le}
use Rattle.calls.specs.Lent.{lent_by}
use Rattle.grammar.specs.Planning.{most, ReadsAs, text_fault}
use Rattle.grammar.specs.Steps.{step_of, all_steps}
use Rattle.reading.proofs.Whole.{read_text}
use Rattle.reading.proofs.reading.read.Goals as goal

pub slice_bounds-build-end : goal.slice_bounds-build-end
slice_bounds-build-end g c = omega (arith, c.in_ok-count.ensures.2)

pub slice_bounds-build-end-2 : goal.slice_bounds-build-end-2
slice_bounds-build-end-2 g c = sym (length-take-le _ c.plan_text.new.steps (omega (arith, c.in_ok-count.ensures.2)))

pub returns-clause-reads : goal.returns-clause-reads
returns-clause-reads g c =
    let book = c.args.book.now in
    let tray = c.args.tray.now in
    let planned = c.in_ok-count.ensures in
    let numbered = g.B.NamedBook.numbered book in
    let a = g.B.Book.automaton book in
    let room = length c.args.steps.now in
    let text = c.args.text.now in
    let steps = take c.in_ok-count.count c.plan_text.new.steps in
    let is = c.sets.ensures in
    read_text numbered (g.B.Book.size book) a (g.B.Book.holds book) (lent_by g.row.STATES g.row.PAIRS g.row.SETS g.row.LINKS) text tray.control tray.tables.now tray.few_sets room planned.3 steps
    (subst (λ n. text_fault numbered a n room text ≡ None) is planned.0) (subst (λ n. ReadsAs numbered a n text planned.3) is planned.4)
    (subst (λ n. map step_of steps ≡ all_steps (most n) planned.3) is planned.5) c.build.new.tray.control c.build.new.tray.tables.now c.build.result
    c.build.ensures.builds
