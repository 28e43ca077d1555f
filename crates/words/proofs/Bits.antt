-- A set by its lowest position and the rest: the set d + 2 * s has 0 as a member when d is 1, and p + 1 when s has p.
use Rattle.std.proofs.Common.{◌≡◌, ℕ, zero, suc, ◌+◌, ◌*◌, ◌/◌, ◌%◌, ◌^◌, ◌<◌, ◌≤◌, Bool, true, false, ◌↔◌, Decides, sym, refl, ap, ◌∙◌, ⊎_elim, le_refl, mul_assoc, pow-suc, zero-mul, one-add, arith}
use native.Mathlib.Nat.{div-eq_of_lt}
use lib.Arith.{bin_ind, half_le}
use Rattle.std.proofs.lemmas.Bool.{cases_eq, false≢true}
use Rattle.std.proofs.lemmas.Nat.{shr-shr, shr_split, mod_below, pow_pos}
use mir.Val.{bool_byte}
use Rattle.words.specs.Sets.{bit, Member, Empty, weight, value}

pub bit_small : (p s : ℕ) → bit p s < 2
bit_small zero s = omega arith
bit_small (suc p) s = bit_small p (s / 2)

pub bit_of_zero : (p : ℕ) → bit p 0 ≡ 0
bit_of_zero zero = refl
bit_of_zero (suc p) = bit_of_zero p

pub bit_low : (d s : ℕ) → d < 2 → bit 0 (d + 2 * s) ≡ d
bit_low d s h = omega arith

pub bit_high : (p d s : ℕ) → d < 2 → bit (suc p) (d + 2 * s) ≡ bit p s
bit_high p d s h =
    let halved : (d + 2 * s) / 2 ≡ s = omega arith in
    ap (bit p) halved

-- the same by one quotient
pub bit_is : (p s : ℕ) → bit p s ≡ s / 2 ^ p % 2
bit_is zero s = omega arith
bit_is (suc p) s =
    bit_is p (s / 2) ∙ ap (λ q. q % 2) (shr-shr s 1 p ∙ ap (λ k. s / 2 ^ k) (one-add p))

pub bit_past : (p s : ℕ) → s < 2 ^ p → bit p s ≡ 0
bit_past p s h = bit_is p s ∙ ap (λ q. q % 2) (div-eq_of_lt h)

pub below_power : (k s : ℕ) → s / 2 ^ k ≡ 0 → s < 2 ^ k
below_power k s none =
    let none_above : s / 2 ^ k * 2 ^ k ≡ 0 = ap (λ q. q * 2 ^ k) none ∙ zero-mul (2 ^ k) in
    omega (arith, shr_split s k, mod_below s (2 ^ k) (pow_pos k))

-- a test that tells whether a bit is 1 is, as a number, the bit
pub byte_of_bit : (test : Bool) (x : ℕ) → x < 2 → Decides test (x ≡ 1) → bool_byte test ≡ x
byte_of_bit true x small says = sym (says.0 refl)
byte_of_bit false x small says =
    ⊎_elim (λ one. absurd (false≢true (says.1 one))) (λ other. omega arith) (cases_eq x 1)

-- ---- sets with the same members are equal

none_is_zero : (s : ℕ) → Empty s → s ≡ 0
none_is_zero = bin_ind (λ s. Empty s → s ≡ 0) (λ _. refl)
    (λ s ih none. let rest : s / 2 ≡ 0 = ih (λ p. none (suc p)) in let low : bit 0 s ≡ 1 → ⊥ = none 0 in omega arith)

same_low : (a b : ℕ) → a < 2 → b < 2 → (a ≡ 1 → b ≡ 1) → (b ≡ 1 → a ≡ 1) → a ≡ b
same_low a b h k up down =
    ⊎_elim (λ one. one ∙ sym (up one)) (λ none. ⊎_elim (λ one. down one ∙ sym one) (λ neither. omega arith) (cases_eq b 1)) (cases_eq a 1)

pub same_members : (s t : ℕ) → ((p : ℕ) → Member p s ↔ Member p t) → s ≡ t
same_members = bin_ind (λ s. (t : ℕ) → ((p : ℕ) → Member p s ↔ Member p t) → s ≡ t)
    (λ t same. sym (none_is_zero t (λ p m. let z : ◌≡◌ {A = ℕ} 0 1 = sym (bit_of_zero p) ∙ (same p).1 m in omega arith)))
    (λ s ih t same.
    let rest : s / 2 ≡ t / 2 = ih (t / 2) (λ p. same (suc p)) in
    let low : s % 2 ≡ t % 2 = same_low (s % 2) (t % 2) (omega arith) (omega arith) (same 0).0 (same 0).1 in
    omega arith)

-- the same by bits
pub bits_equal : (s t : ℕ) → ((p : ℕ) → bit p s ≡ bit p t) → s ≡ t
bits_equal s t same = same_members s t (λ p. ((λ m. sym (same p) ∙ m), (λ m. same p ∙ m)))

-- ---- a set counts as the number that holds it

-- the sum of weights, from the lowest position
weight_low : (k s : ℕ) → weight (suc k) s ≡ s % 2 + 2 * weight k (s / 2)
weight_low zero s = omega arith
weight_low (suc k) s =
    let before : weight (suc k) s ≡ s % 2 + 2 * weight k (s / 2) = weight_low k s in
    let power : 2 ^ suc k ≡ 2 ^ k * 2 = pow-suc 2 k in
    let wide : bit k (s / 2) * 2 ^ suc k ≡ bit k (s / 2) * 2 ^ k * 2 =
    ap (λ x. bit k (s / 2) * x) power ∙ sym (mul_assoc (bit k (s / 2)) (2 ^ k) 2) in
    omega arith

weight_is : (k s : ℕ) → s ≤ k → weight k s ≡ s
weight_is zero s h = omega arith
weight_is (suc k) s h =
    let low : weight (suc k) s ≡ s % 2 + 2 * weight k (s / 2) = weight_low k s in
    let rest : weight k (s / 2) ≡ s / 2 = weight_is k (s / 2) (half_le h) in
    omega arith

pub value_is : (s : ℕ) → value s ≡ s
value_is s = weight_is s s (le_refl s)
