use Rattle.std.proofs.Common.{◌≡◌, sym, ◌∙◌, subst, arith}
use Rattle.std.specs.Cmp.Lexicographic.{same_text}
use Rattle.books.specs.Names.{IsName}
use Rattle.loading.proofs.Letters.{is_name}
use Rattle.loading.proofs.answering.LoadedNamedBook.find.Goals as goal

-- the bytes are the book's name, which is one
pub returns-then-eq-clause-named : goal.returns-then-eq-clause-named
returns-then-eq-clause-named c =
    let b = c.args.self.now in
    let same : c.args.name.now ≡ b.name = same_text c.args.name.now c.as_slice.result.now (sym c.if-eq.true ∙ c.eq.ensures) ∙ c.as_slice.ensures in
    subst IsName (sym same) (is_name b.name (omega arith) (λ i h. b.letters i (omega (arith, c.if-self-gt0.true)) h))
