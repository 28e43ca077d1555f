-- How a relation between sets changes as one column is read: the sets d + 2 * a and so on, for bits d of the column, stand
-- in it exactly when the rests a and so on stand in a relation that is named here.
use Rattle.std.proofs.Common.{◌≡◌, ℕ, zero, suc, ◌+◌, ◌*◌, ◌<◌, ◌↔◌, sym, refl, ap, ◌∙◌, subst, arith}
use Rattle.words.specs.Sets.{Member, Empty, Only}
use Rattle.words.specs.Relations.{Within, Singleton, Successor, Less, Sum}
use Rattle.words.proofs.Bits.{bit_of_zero, bit_low, bit_high, value_is}

-- both sides are impossible
pub neither : {A B : Type 0} → (A → ⊥) → (B → ⊥) → A ↔ B
neither f g = ((λ a. absurd (f a)), (λ b. absurd (g b)))

no_one : ◌≡◌ {A = ℕ} 0 1 → ⊥
no_one e = omega arith

-- ---- members

low : (d a : ℕ) → d < 2 → Member 0 (d + 2 * a) ↔ (d ≡ 1)
low d a h = ((λ m. sym (bit_low d a h) ∙ m), (λ m. bit_low d a h ∙ m))

high : (p d a : ℕ) → d < 2 → Member (suc p) (d + 2 * a) ↔ Member p a
high p d a h = ((λ m. sym (bit_high p d a h) ∙ m), (λ m. bit_high p d a h ∙ m))

-- ---- no member

pub empty_of_zero : Empty 0
empty_of_zero p m = no_one (sym (bit_of_zero p) ∙ m)

pub empty_0 : (a : ℕ) → Empty (0 + 2 * a) ↔ Empty a
empty_0 a = ((λ none p m. none (suc p) ((high p 0 a (omega arith)).1 m)), back)
  where
    back : Empty a → Empty (0 + 2 * a)
    back none zero m = no_one ((low 0 a (omega arith)).0 m)
    back none (suc p) m = none p ((high p 0 a (omega arith)).0 m)

pub empty_1 : (a : ℕ) → Empty (1 + 2 * a) → ⊥
empty_1 a none = none 0 ((low 1 a (omega arith)).1 refl)

-- ---- the only member

pub only_zero_0 : (a : ℕ) → Only 0 (0 + 2 * a) → ⊥
only_zero_0 a only = no_one ((low 0 a (omega arith)).0 ((only 0).1 refl))

pub only_zero_1 : (a : ℕ) → Only 0 (1 + 2 * a) ↔ Empty a
only_zero_1 a = (forth, λ none q. (there none q, here q))
  where
    forth : Only 0 (1 + 2 * a) → Empty a
    forth only p m = let e : suc p ≡ 0 = (only (suc p)).0 ((high p 1 a (omega arith)).1 m) in omega arith

    there : Empty a → (q : ℕ) → Member q (1 + 2 * a) → q ≡ 0
    there none zero m = refl
    there none (suc q) m = absurd (none q ((high q 1 a (omega arith)).0 m))

    here : (q : ℕ) → q ≡ 0 → Member q (1 + 2 * a)
    here q e = subst (λ x. Member x (1 + 2 * a)) (sym e) ((low 1 a (omega arith)).1 refl)

pub only_suc_0 : (p a : ℕ) → Only (suc p) (0 + 2 * a) ↔ Only p a
only_suc_0 p a = (forth, λ only q. (there only q, here only q))
  where
    forth : Only (suc p) (0 + 2 * a) → Only p a
    forth only q = (
      (λ m. let e : suc q ≡ suc p = (only (suc q)).0 ((high q 0 a (omega arith)).1 m) in omega arith),
      (λ e. (high q 0 a (omega arith)).0 ((only (suc q)).1 (ap suc e))),
    )

    there : Only p a → (q : ℕ) → Member q (0 + 2 * a) → q ≡ suc p
    there only zero m = absurd (no_one ((low 0 a (omega arith)).0 m))
    there only (suc q) m = ap suc ((only q).0 ((high q 0 a (omega arith)).0 m))

    here : Only p a → (q : ℕ) → q ≡ suc p → Member q (0 + 2 * a)
    here only q e =
        subst (λ x. Member x (0 + 2 * a)) (sym e) ((high p 0 a (omega arith)).1 ((only p).1 refl))

pub only_suc_1 : (p a : ℕ) → Only (suc p) (1 + 2 * a) → ⊥
only_suc_1 p a only = let e : 0 ≡ suc p = (only 0).0 ((low 1 a (omega arith)).1 refl) in omega arith

pub only_of_zero : (p : ℕ) → Only p 0 → ⊥
only_of_zero p only = empty_of_zero p ((only p).1 refl)

-- ---- exactly one member

pub singleton_0 : (a : ℕ) → Singleton (0 + 2 * a) ↔ Singleton a
singleton_0 a = ((λ s. forth s.0 s.1), λ s. (suc s.0, (only_suc_0 s.0 a).1 s.1))
  where
    forth : (p : ℕ) → Only p (0 + 2 * a) → Singleton a
    forth zero only = absurd (only_zero_0 a only)
    forth (suc p) only = (p, (only_suc_0 p a).0 only)

pub singleton_1 : (a : ℕ) → Singleton (1 + 2 * a) ↔ Empty a
singleton_1 a = ((λ s. forth s.0 s.1), λ none. (0, (only_zero_1 a).1 none))
  where
    forth : (p : ℕ) → Only p (1 + 2 * a) → Empty a
    forth zero only = (only_zero_1 a).0 only
    forth (suc p) only = absurd (only_suc_1 p a only)

-- ---- members of the one are in the other

pub within_on : (d e a b : ℕ) → d < 2 → e < 2 → (d ≡ 1 → e ≡ 1) → Within (d + 2 * a) (e + 2 * b) ↔ Within a b
within_on d e a b hd he so = ((λ w p m. (high p e b he).0 (w (suc p) ((high p d a hd).1 m))), back)
  where
    back : Within a b → Within (d + 2 * a) (e + 2 * b)
    back w zero m = (low e b he).1 (so ((low d a hd).0 m))
    back w (suc p) m = (high p e b he).1 (w p ((high p d a hd).0 m))

pub within_off : (a b : ℕ) → Within (1 + 2 * a) (0 + 2 * b) → ⊥
within_off a b w = no_one ((low 0 b (omega arith)).0 (w 0 ((low 1 a (omega arith)).1 refl)))

-- ---- {p} and {p + 1}

pub successor_00 : (a b : ℕ) → Successor (0 + 2 * a) (0 + 2 * b) ↔ Successor a b
successor_00 a b = (
  (λ s. forth s.0 s.1 s.2),
  λ s. (suc s.0, (only_suc_0 s.0 a).1 s.1, (only_suc_0 (suc s.0) b).1 s.2),
)
  where
    forth : (p : ℕ) → Only p (0 + 2 * a) → Only (suc p) (0 + 2 * b) → Successor a b
    forth zero x y = absurd (only_zero_0 a x)
    forth (suc p) x y = (p, (only_suc_0 p a).0 x, (only_suc_0 (suc p) b).0 y)

pub successor_10 : (a b : ℕ) → Successor (1 + 2 * a) (0 + 2 * b) ↔ (Empty a × Only 0 b)
successor_10 a b =
    ((λ s. forth s.0 s.1 s.2), λ s. (0, (only_zero_1 a).1 s.0, (only_suc_0 0 b).1 s.1))
  where
    forth : (p : ℕ) → Only p (1 + 2 * a) → Only (suc p) (0 + 2 * b) → Empty a × Only 0 b
    forth zero x y = ((only_zero_1 a).0 x, (only_suc_0 0 b).0 y)
    forth (suc p) x y = absurd (only_suc_1 p a x)

pub successor_1 : (a b : ℕ) → Successor a (1 + 2 * b) → ⊥
successor_1 a b s = only_suc_1 s.0 b s.2

-- ---- {p} and {q} with p < q

pub less_00 : (a b : ℕ) → Less (0 + 2 * a) (0 + 2 * b) ↔ Less a b
less_00 a b = (
  (λ s. forth s.0 s.1 s.2 s.3 s.4),
  λ s. (suc s.0, suc s.1, (only_suc_0 s.0 a).1 s.2, (only_suc_0 s.1 b).1 s.3, (let l = s.4 in omega arith)),
)
  where
    forth : (p q : ℕ) → Only p (0 + 2 * a) → Only q (0 + 2 * b) → p < q → Less a b
    forth zero q x y l = absurd (only_zero_0 a x)
    forth (suc p) zero x y l = absurd (only_zero_0 b y)
    forth (suc p) (suc q) x y l = (p, q, (only_suc_0 p a).0 x, (only_suc_0 q b).0 y, omega arith)

pub less_10 : (a b : ℕ) → Less (1 + 2 * a) (0 + 2 * b) ↔ (Empty a × Singleton b)
less_10 a b = (
  (λ s. forth s.0 s.1 s.2 s.3),
  λ s. (0, suc s.1.0, (only_zero_1 a).1 s.0, (only_suc_0 s.1.0 b).1 s.1.1, omega arith),
)
  where
    forth : (p q : ℕ) → Only p (1 + 2 * a) → Only q (0 + 2 * b) → Empty a × Singleton b
    forth zero zero x y = absurd (only_zero_0 b y)
    forth zero (suc q) x y = ((only_zero_1 a).0 x, (q, (only_suc_0 q b).0 y))
    forth (suc p) q x y = absurd (only_suc_1 p a x)

pub less_1 : (a b : ℕ) → Less a (1 + 2 * b) → ⊥
less_1 a b s = none s.0 s.1 s.3 s.4
  where
    none : (p q : ℕ) → Only q (1 + 2 * b) → p < q → ⊥
    none p zero y l = omega arith
    none p (suc q) y l = only_suc_1 q b y

-- ---- sums

-- a set counts as the number that holds it, so a sum of sets is a sum of numbers
pub sum_plain : (a b c : ℕ) → (a + b + 0 ≡ c) ↔ Sum a b c
sum_plain a b c =
    ((λ h. omega (arith, value_is a, value_is b, value_is c)), (λ h. omega (arith, value_is a, value_is b, value_is c)))
