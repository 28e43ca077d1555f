-- The test whether two sets of states meet.
use Rattle.std.proofs.Common.{◌≡◌, ℕ, ◌+◌, ◌*◌, ◌/◌, ◌%◌, ◌<◌, Bool, true, false, ◌&&◌, length, Decides, refl, sym, subst, arith}
use Rattle.std.specs.Bool.{MatchBool}
use Rattle.std.specs.List.{zip, HoldsAt, AllWithin}
use Rattle.std.proofs.lemmas.Bool.{false≢true}
use Rattle.std.proofs.lemmas.Bool.Decides.{Decides-and, Decides-below_or, Decides-like}
use Rattle.std.proofs.lemmas.Slice.Zip.{length-zip, get_or-zip}
use Rattle.words.specs.Sets.{Member}
use Rattle.hiding.specs.declared.state_set.StateSet.{StateSet}
use Rattle.hiding.specs.StateSets.{Has, Meet, is_in, meeting}
use Rattle.hiding.proofs.Inserting.{in_decides, has_at}

pub meeting_decides : (s t : StateSet) → Decides (meeting s t 512) (Meet s t)
unfolding meeting
meeting_decides s t =
    Decides-like (meeting s t 512) (λ m. (m.0, m.2.0, m.2.1)) (λ m. (m.0, m.1.0, (m.1, m.2)))
    (Decides-below_or (λ q. is_in s q && is_in t q) (λ q. Has s q × Has t q) (meeting s t)
    (λ q. Decides-and (is_in s q) (is_in t q) (in_decides s q) (in_decides t q)) refl (λ k. refl) 512)

-- two words have a bit in common
abbrev pub Shared : ℕ × ℕ → Type 0
Shared w = (p : ℕ) × (p < 64) × Member p w.0 × Member p w.1

-- sets meet when two of their words at one place do
pub meets_by_words : (s t : StateSet) → length s.words ≡ 8 → length t.words ≡ 8 → (r : Bool)
    → MatchBool r ((k : ℕ) × (k < length (zip s.words t.words)) × HoldsAt Shared (zip s.words t.words) k)
    (AllWithin (λ w. Shared w → ⊥) (zip s.words t.words) 0 (length (zip s.words t.words))) → Decides r (Meet s t)
meets_by_words s t hs ht true here =
    let k : ℕ = here.0 in
    let low : k < 8 = omega (arith, here.1, length-zip s.words t.words, hs) in
    let m = subst Shared (get_or-zip s.words t.words k (0, 0) (omega arith) (omega arith)) (here.2 (0, 0)) in
    ((λ _. (k * 64 + m.0, has_at s k m.0 low m.1 m.2, has_at t k m.0 low m.1 m.3)), (λ _. refl))
meets_by_words s t hs ht false none = (
  (λ e. absurd (false≢true e)),
  (λ m.
      let k : ℕ = m.0 / 64 in
      let low : k < 8 = omega (arith, m.1.0) in
      absurd (none k (0, 0) (omega arith) (omega (arith, length-zip s.words t.words, hs, ht))
      (subst Shared (sym (get_or-zip s.words t.words k (0, 0) (omega arith) (omega arith))) (m.0 % 64, omega arith, m.1.1, m.2.1)))),
)
