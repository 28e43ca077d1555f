-- The sets with exactly one member are the powers of two.
use Rattle.std.proofs.Common.{◌≡◌, ℕ, zero, suc, ◌+◌, ◌*◌, ◌^◌, ◌<◌, cond, eqb, sym, refl, ap, ◌∙◌, subst, pow-suc, ⊎_elim, arith}
use Rattle.std.proofs.lemmas.Bool.{cases_eq, eq-eqb, ne_eqb, cond-true, cond-false}
use Rattle.words.specs.Sets.{Member, Only}
use Rattle.words.specs.Relations.{Singleton}
use Rattle.words.proofs.Bits.{same_members}
use Rattle.words.proofs.Reading.{empty_of_zero, only_zero_1, only_suc_0}

pub only_power : (p : ℕ) → Only p (2 ^ p)
only_power zero = (only_zero_1 0).1 empty_of_zero
only_power (suc p) =
    let double : 0 + 2 * 2 ^ p ≡ 2 ^ suc p = omega (arith, pow-suc 2 p) in
    subst (Only (suc p)) double ((only_suc_0 p (2 ^ p)).1 (only_power p))

pub singleton_power : (p : ℕ) → Singleton (2 ^ p)
singleton_power p = (p, only_power p)

pub only_is_power : (p s : ℕ) → Only p s → s ≡ 2 ^ p
only_is_power p s only = same_members s (2 ^ p) (λ q. (
  (λ m. (only_power p q).1 ((only q).0 m)),
  (λ m. (only q).1 ((only_power p q).0 m)),
))

pub power_of_singleton : (s : ℕ) → Singleton s → (p : ℕ) × (s ≡ 2 ^ p)
power_of_singleton s one = (one.0, only_is_power one.0 s one.1)

-- ---- the position that is a set's only member

pub power_apart : (p q : ℕ) → 2 ^ p ≡ 2 ^ q → p ≡ q
power_apart p q e = (only_power q p).0 (subst (Member p) e ((only_power p p).1 refl))

power_above : (p : ℕ) → p < 2 ^ p
power_above zero = omega arith
power_above (suc p) = omega (arith, power_above p, pow-suc 2 p)

-- the last k below a bound with 2^k = s
last_power : ℕ → ℕ → ℕ
last_power zero s = 0
last_power (suc k) s = cond (eqb (2 ^ k) s) k (last_power k s)

last_power_is : (k p : ℕ) → p < k → last_power k (2 ^ p) ≡ p
unfolding last_power
last_power_is zero p h = absurd (omega arith)
last_power_is (suc k) p h =
    ⊎_elim (λ same. cond-true (eqb (2 ^ k) (2 ^ p)) k (last_power k (2 ^ p)) (eq-eqb (2 ^ k) (2 ^ p) same) ∙ power_apart k p same)
    (λ other. cond-false (eqb (2 ^ k) (2 ^ p)) k (last_power k (2 ^ p)) (ne_eqb (2 ^ k) (2 ^ p) other) ∙ last_power_is k p (lower other))
    (cases_eq (2 ^ k) (2 ^ p))
  where
    lower : (2 ^ k ≡ 2 ^ p → ⊥) → p < k
    lower other = ⊎_elim (λ e. absurd (other (ap (λ j. 2 ^ j) e))) (λ apart. omega arith) (cases_eq k p)

-- the member of a set that has only one
pub member_of : ℕ → ℕ
member_of s = last_power s s

pub member_of_power : (p : ℕ) → member_of (2 ^ p) ≡ p
unfolding member_of
member_of_power p = last_power_is (2 ^ p) p (power_above p)

pub member_of_singleton : (s : ℕ) → Singleton s → s ≡ 2 ^ member_of s
member_of_singleton s one =
    let power : s ≡ 2 ^ one.0 = only_is_power one.0 s one.1 in
    power ∙ ap (λ p. 2 ^ p) (sym (member_of_power one.0) ∙ ap member_of (sym power))
