use Rattle.std.proofs.Common.{rules, ◌≡◌, position, refl, sym, ap, subst, ◌∙◌}
use Rattle.std.specs.Str.{bytes_eq}
use Rattle.std.proofs.lemmas.Iterator.{YieldsList-from_slice}
use Rattle.std.proofs.lemmas.Iterator.Search.{position_from_yields_List}
use Rattle.std.proofs.lemmas.Slice.Eq.{bytes_eq-Decides, slice_eq-Decides}
use Rattle.std.proofs.lemmas.Bool.Decides.{same_from_decides, Decides-eqb}
use Rattle.books.specs.Names.{Finds}
use Rattle.books.specs.Standard.{names}
use Rattle.books.proofs.Places.{place_found}
use Rattle.books.proofs.standard.StandardNamedBook.find.Goals as goal

pub returns-clause-numbered : goal.returns-clause-numbered
returns-clause-numbered c =
    let at : c.position.result ≡ position (λ n. bytes_eq c.args.name.now n) names =
    position_from_yields_List (λ k. bytes_eq c.args.name.now k.name) _ _ c.position.result c.position.ensures.ran (YieldsList-from_slice c.iter.result.rest.now refl) (λ x b q k. search (rules, same_from_decides, bytes_eq-Decides, slice_eq-Decides, Decides-eqb))
    ∙ ap (position (λ k. bytes_eq c.args.name.now k.name)) c.iter.ensures.rest in
    let same : c.map.result ≡ c.position.result = search rules in
    same ∙ at

pub returns-clause-exact : goal.returns-clause-exact
returns-clause-exact c = subst (Finds names c.args.name.now) (sym (returns-clause-numbered c)) (place_found names c.args.name.now)
