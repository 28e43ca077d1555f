-- Truth depends only on the sets that a formula names, and languages of formulas are made from those of their parts.
use Rattle.std.proofs.Common.{◌≡◌, ℕ, ◌<◌, Bool, not, ◌&&◌, ◌||◌, eqb, List, ◌++◌, map, length, get_or, replicate, sym, refl, ◌∙◌, subst, inl, inr, ⊎_elim}
use Rattle.std.proofs.lemmas.Bool.{cases_eq, eq-eqb, ne_eqb, cond-true, cond-false}
use Rattle.std.proofs.lemmas.List.{ext_get_or, get_or-map, length-map}
use Rattle.std.proofs.lemmas.Bool.Decides.{Decides-not, Decides-and, Decides-or, same_from_decides}
use Rattle.words.specs.Words.{Columns, coded}
use Rattle.words.specs.Relations.{Singleton}
use Rattle.words.specs.Formulas.{Formula, placed, single, negation, both, either, hidden, instead, Truth, Names, Satisfies, Tells}
use Rattle.words.specs.Hiding.{Hides}
use Rattle.words.proofs.Coding.{every_choice, zeros_at_end, columns_append, columns_zeros}

instead_here : (i s : ℕ) (x : ℕ → ℕ) → instead i s x i ≡ s
instead_here i s x = cond-true (eqb i i) s (x i) (eq-eqb i i refl)

instead_there : (i s : ℕ) (x : ℕ → ℕ) (j : ℕ) → (j ≡ i → ⊥) → instead i s x j ≡ x j
instead_there i s x j other = cond-false (eqb j i) s (x j) (ne_eqb j i other)

-- choices that agree below n agree there with s in place of set i
instead_same : (n i s : ℕ) (x y : ℕ → ℕ) → ((j : ℕ) → j < n → x j ≡ y j) → (j : ℕ) → j < n → instead i s x j ≡ instead i s y j
instead_same n i s x y same j h =
    ⊎_elim (λ e. subst (λ k. instead i s x k ≡ instead i s y k) (sym e) (instead_here i s x ∙ sym (instead_here i s y)))
    (λ other. instead_there i s x j other ∙ same j h ∙ sym (instead_there i s y j other)) (cases_eq j i)

pub truth_local : (n : ℕ) (holds : ℕ → List ℕ → Type 0) (f : Formula) → Names n f → (x y : ℕ → ℕ) → ((j : ℕ) → j < n → x j ≡ y j) → Truth holds f x → Truth holds f y
truth_local n holds (placed p places) names x y same h =
    subst (holds p)
    (ext_get_or 0 (map x places) (map y places) (length-map places x ∙ sym (length-map places y))
    (λ j l.
    let within : j < length places = subst (λ k. j < k) (length-map places x) l in
    get_or-map x places j 0 0 within ∙ same (get_or places j 0) (names j within) ∙ sym (get_or-map y places j 0 0 within)))
    h
truth_local n holds (single i) names x y same h = subst Singleton (same i names) h
truth_local n holds (negation f) names x y same h = λ t. h (truth_local n holds f names y x (λ j l. sym (same j l)) t)
truth_local n holds (both f g) names x y same h =
    (truth_local n holds f names.0 x y same h.0, truth_local n holds g names.1 x y same h.1)
truth_local n holds (either f g) names x y same (inl h) = inl (truth_local n holds f names.0 x y same h)
truth_local n holds (either f g) names x y same (inr h) = inr (truth_local n holds g names.1 x y same h)
truth_local n holds (hidden i f) names x y same h =
    (h.0, truth_local n holds f names.1 (instead i h.0 x) (instead i h.0 y) (instead_same n i h.0 x y same) h.1)

-- ---- languages from languages

pub tells_not : (n : ℕ) (holds : ℕ → List ℕ → Type 0) (f : Formula) (L : List ℕ → Bool) → Tells n holds f L → Tells n holds (negation f) (λ w. not (L w))
tells_not n holds f L t w cs = Decides-not (L w) (t w cs)

pub tells_both : (n : ℕ) (holds : ℕ → List ℕ → Type 0) (f g : Formula) (L M : List ℕ → Bool) → Tells n holds f L → Tells n holds g M → Tells n holds (both f g) (λ w. L w && M w)
tells_both n holds f g L M t u w cs = Decides-and (L w) (M w) (t w cs) (u w cs)

pub tells_either : (n : ℕ) (holds : ℕ → List ℕ → Type 0) (f g : Formula) (L M : List ℕ → Bool) → Tells n holds f L → Tells n holds g M → Tells n holds (either f g) (λ w. L w || M w)
tells_either n holds f g L M t u w cs = Decides-or (L w) (M w) (t w cs) (u w cs)

-- zeros at the end change nothing that the language of a formula tells
pub tells_padded : (n : ℕ) (holds : ℕ → List ℕ → Type 0) (f : Formula) (L : List ℕ → Bool) → Names n f → Tells n holds f L
    → (u : List ℕ) (k : ℕ) → Columns n u → L (u ++ replicate k 0) ≡ L u
tells_padded n holds f L names t u k cu =
    let long : Columns n (u ++ replicate k 0) = columns_append n u (replicate k 0) cu (columns_zeros n k) in
    let a = t (u ++ replicate k 0) long in
    same_from_decides (L (u ++ replicate k 0)) (L u) (
      (λ e. truth_local n holds f names (λ j. coded j (u ++ replicate k 0)) (λ j. coded j u) (λ j l. zeros_at_end j k u) (a.0 e)),
      (λ h. a.1 (truth_local n holds f names (λ j. coded j u) (λ j. coded j (u ++ replicate k 0)) (λ j l. sym (zeros_at_end j k u)) h)),
    )
    (t u cu)

-- hiding a set in the language is hiding it in the formula
module _ (n : ℕ) (holds : ℕ → List ℕ → Type 0) (f : Formula) (i : ℕ) (L : List ℕ → Bool) (names : Names n f) (t : Tells n holds f L) where
  pub hides_truth : (w : List ℕ) → Hides n i L w → Satisfies holds (hidden i f) w
  hides_truth w h =
      let u : List ℕ = h.0 in (
        coded i u,
        truth_local n holds f names (λ j. coded j u) (instead i (coded i u) (λ j. coded j w))
            (λ j l. ⊎_elim (λ e. subst (λ k. coded k u ≡ instead i (coded i u) (λ x. coded x w) k) (sym e) (sym (instead_here i (coded i u) (λ x. coded x w))))
            (λ other. h.2 j l other ∙ sym (instead_there i (coded i u) (λ x. coded x w) j other)) (cases_eq j i))
            ((t u h.1).0 h.3),
      )

  pub truth_hides : (w : List ℕ) → Satisfies holds (hidden i f) w → Hides n i L w
  truth_hides w h =
      let x : ℕ → ℕ = instead i h.0 (λ j. coded j w) in
      let u = every_choice n x in (
        u.0,
        u.1,
        (λ j l other. u.2 j l ∙ instead_there i h.0 (λ k. coded k w) j other),
        (t u.0 u.1).1 (truth_local n holds f names x (λ j. coded j u.0) (λ j l. sym (u.2 j l)) h.1),
      )
