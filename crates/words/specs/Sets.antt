-- Finite sets of natural numbers, each held as one number: position p is a member when bit p is 1.
-- Every finite set is such a number and no set is two of them, so no bound and no quotient is needed.
use Rattle.std.specs.Prelude.{◌≡◌, ℕ, zero, suc, ◌+◌, ◌*◌, ◌/◌, ◌%◌, ◌^◌, ◌↔◌}

-- bit p of a number: halve p times, and take what is left over by two
abbrev pub bit : ℕ → ℕ → ℕ
bit zero s = s % 2
bit (suc p) s = bit p (s / 2)

abbrev pub Member : ℕ → ℕ → Type 0
Member p s = bit p s ≡ 1

-- s has no member
abbrev pub Empty : ℕ → Type 0
Empty s = (p : ℕ) → Member p s → ⊥

-- s is {p}
abbrev pub Only : ℕ → ℕ → Type 0
Only p s = (q : ℕ) → Member q s ↔ (q ≡ p)

-- the sum of 2^p over the members p of s that are below k
abbrev pub weight : ℕ → ℕ → ℕ
weight zero s = 0
weight (suc k) s = weight k s + bit k s * 2 ^ k

-- what a set counts as: the sum of 2^p over its members, all of which are below s
abbrev pub value : ℕ → ℕ
value s = weight s s
