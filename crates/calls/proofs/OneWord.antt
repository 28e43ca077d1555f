-- What is told of the earliest word that serves settles its length and the buffer.
use Rattle.std.proofs.Common.{◌≡◌, ℕ, ◌≤◌, List, ◌++◌, length, take, drop, Some, None, Option, sym, refl, ap, ◌∙◌, subst, ap₂, inl, inr}
use Rattle.std.proofs.lemmas.List.{take-append-drop, length-take-le}
use Rattle.words.specs.Order.{NotLater}
use Rattle.words.proofs.Orders.{never, chain}
use Rattle.judging.specs.Earliest.{Earliest, Written}

-- neither is later than the other
level : (u w : List ℕ) → NotLater u w → NotLater w u → u ≡ w
level u w (inl e) later = e
level u w (inr p) (inl e) = sym e
level u w (inr p) (inr q) = absurd (never u (chain u w u p q))

-- lists with one front and one rest
pub halves : (j k : ℕ) (b c : List ℕ) → take j b ≡ take k c → drop j b ≡ drop k c → b ≡ c
halves j k b c front rest = sym (take-append-drop j b) ∙ ap₂ ◌++◌ front rest ∙ take-append-drop k c

module _ (n : ℕ) (Serves : List ℕ → Type 0) where
  pub one_earliest : (u w : List ℕ) → Earliest n Serves u → Earliest n Serves w → u ≡ w
  one_earliest u w a b = level u w (a.least w b.columns b.serves) (b.least u a.columns a.serves)

  pub one_word : (buffer b c : List ℕ) (r s : Option ℕ) → Written n Serves buffer b r → Written n Serves buffer c s → (r ≡ s) × (b ≡ c)
  one_word buffer b c None None x y = (refl, x.1 ∙ sym y.1)
  one_word buffer b c None (Some k) x y = absurd (x.0 (take k c) y.2.columns y.2.serves)
  one_word buffer b c (Some j) None x y = absurd (y.0 (take j b) x.2.columns x.2.serves)
  one_word buffer b c (Some j) (Some k) x y =
      let word : take j b ≡ take k c = one_earliest (take j b) (take k c) x.2 y.2 in
      let left : length (take j b) ≡ j = length-take-le j b (subst (λ l. j ≤ l) (sym x.1) x.0) in
      let right : length (take k c) ≡ k = length-take-le k c (subst (λ l. k ≤ l) (sym y.1) y.0) in
      let same : j ≡ k = sym left ∙ ap length word ∙ right in
      (ap Some same, halves j k b c word (x.3 ∙ ap (λ l. drop l buffer) same ∙ sym y.3))
