use Rattle.std.proofs.Common.{length, take, refl, subst, sym, ap, arith}
use Rattle.grammar.specs.Sources.{FewPlaces}
use Rattle.grammar.proofs.Items.{at_most_four, few_items, items_length}
use Rattle.grammar.proofs.Planned.{plans}
use Rattle.grammar.proofs.planning.plan_text.Goals as goal

pub plan_items-requires-clause-few : goal.plan_items-requires-clause-few
plan_items-requires-clause-few g c =
    let book = c.args.book.now in
    let rule = g.B.Book.rule book in
    let four = at_most_four (g.B.Book.size book) (g.B.Book.automaton book) (g.B.Book.holds book) rule in
    subst FewPlaces (sym c.in-Some.ensures.3) (few_items (g.B.NamedBook.numbered book) (g.B.Book.automaton book) four c.args.text.now)

pub plan_items-requires-clause-room : goal.plan_items-requires-clause-room
plan_items-requires-clause-room g c =
    let book = c.args.book.now in
    let rule = g.B.Book.rule book in
    let four = at_most_four (g.B.Book.size book) (g.B.Book.automaton book) (g.B.Book.holds book) rule in
    omega (
      arith,
      c.if-steps-text.false,
      ap length c.in-Some.ensures.3,
      items_length (g.B.NamedBook.numbered book) (g.B.Book.automaton book) four c.args.text.now,
    )

pub returns : goal.returns
returns g c =
    let book = c.args.book.now in
    let four = at_most_four (g.B.Book.size book) (g.B.Book.automaton book) (g.B.Book.holds book) (g.B.Book.rule book) in
    let few = items_length (g.B.NamedBook.numbered book) (g.B.Book.automaton book) four c.args.text.now in
    plans (g.B.NamedBook.numbered book) (g.B.Book.automaton book) c.args.sets c.args.text.now (length c.args.steps.now) c.min.result c.min.ensures
    (take c.in-Some.count c.list_items.new.items) c.in-Some.ensures.3 c.in-Some.ensures.0 (omega (arith, c.if-steps-text.false))
    (omega (arith, ap length c.in-Some.ensures.3, few)) c.args.steps.now c.plan_items.new.steps c.plan_items.result refl c.plan_items.ensures
