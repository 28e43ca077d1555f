-- Words that are equal but for one bit, with one column more; and collections of residuals.
use Rattle.std.proofs.Common.{◌≡◌, ℕ, Bool, List, [], ◌∷◌, ◌++◌, refl, ap, ◌∙◌}
use Rattle.words.specs.Residuals.{Equality}
use Rattle.words.specs.Hiding.{AgreeBut, EqualBut, Collects, SameCollection}

module _ (i : ℕ) where
  pub equal_push : (x u : List ℕ) (d c : ℕ) → EqualBut i x u → AgreeBut i d c → EqualBut i (x ++ d ∷ []) (u ++ c ∷ [])
  equal_push [] [] d c e agree = (agree, tt)
  equal_push [] (b ∷ u) d c e agree = absurd e
  equal_push (b ∷ x) [] d c e agree = absurd e
  equal_push (b ∷ x) (a ∷ u) d c e agree = (e.0, equal_push x u d c e.1 agree)

  pub equal_pop : (x u : List ℕ) (c : ℕ) → EqualBut i x (u ++ c ∷ []) → (y : List ℕ) × (d : ℕ) × (x ≡ y ++ d ∷ []) × EqualBut i y u × AgreeBut i d c
  equal_pop [] [] c e = absurd e
  equal_pop [] (a ∷ u) c e = absurd e
  equal_pop (d ∷ []) [] c e = ([], d, refl, tt, e.0)
  equal_pop (d ∷ (b ∷ x)) [] c e = absurd e.1
  equal_pop (b ∷ x) (a ∷ u) c e =
      let rest = equal_pop x u c e.1 in
      (b ∷ rest.0, rest.1, ap (λ y. b ∷ y) rest.2, (e.0, rest.3), rest.4)

-- ---- sameness of collections is an equality

module _ (n i : ℕ) (L : List ℕ → Bool) where
  collects_itself : (u : List ℕ) → Collects n i L u u
  collects_itself u x cx e = (x, cx, e, λ v cv. refl)

  collects_chain : (u w v : List ℕ) → Collects n i L u w → Collects n i L w v → Collects n i L u v
  collects_chain u w v first second x cx e =
      let y = first x cx e in
      let z = second y.0 y.1 y.2 in
      (z.0, z.1, z.2, λ t ct. y.3 t ct ∙ z.3 t ct)

  pub collection_equality : Equality (SameCollection n i L)
  collection_equality = record {
    itself = λ u. (collects_itself u, collects_itself u);
    back = λ u w same. (same.1, same.0);
    chain = λ u w v first second. (collects_chain u w v first.0 second.0, collects_chain v w u second.1 first.1);
  }
