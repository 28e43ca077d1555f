-- Where a name stands among names.
use Rattle.std.proofs.Common.{ℕ, List, [], length, get_or, Some, None, sym, ◌∙◌, subst, ⊎_elim, arith, nat_lt}
use Rattle.std.specs.Str.{bytes_eq}
use Rattle.std.specs.List.{position_or_len}
use Rattle.std.proofs.lemmas.Slice.Eq.{bytes_eq-Decides}
use Rattle.std.proofs.lemmas.List.Sums.{fails_before_first, passes_at_first}
use Rattle.std.proofs.lemmas.Bool.{cases_Bool, cond-true, cond-false, ltb-true, ltb-false, false≢true}
use Rattle.books.specs.Names.{place_of, Finds}

-- the place that is found is that of the bytes, and they are no name where none is found
pub place_found : (names : List (List ℕ)) (name : List ℕ) → Finds names name (place_of name names)
place_found names name =
    let p : ℕ = position_or_len (bytes_eq name) names in
    ⊎_elim
    (λ e. subst (Finds names name) (sym (cond-true (nat_lt p (length names)) (Some p) None e))
    (ltb-true p (length names) e, (bytes_eq-Decides name (get_or names p [])).0 (passes_at_first (bytes_eq name) names [] (ltb-true p (length names) e))))
    (λ e. subst (Finds names name) (sym (cond-false (nat_lt p (length names)) (Some p) None e))
    (λ k h same. false≢true (sym (fails_before_first (bytes_eq name) names k [] (omega (arith, ltb-false p (length names) e))) ∙ (bytes_eq-Decides name (get_or names k [])).1 same)))
    (cases_Bool (nat_lt p (length names)))
