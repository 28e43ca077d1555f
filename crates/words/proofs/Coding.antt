-- What a word codes: by positions, by every choice of sets, and with zeros at its end.
use Rattle.std.proofs.Common.{◌≡◌, ℕ, zero, suc, ◌+◌, ◌*◌, ◌/◌, ◌%◌, ◌^◌, ◌<◌, ◌≤◌, ◌↔◌, List, [], ◌∷◌, ◌++◌, length, get_or, take, replicate, sym, refl, ap, ◌∙◌, subst, ⊎_elim, pow-suc, arith, pow_pos}
use Rattle.std.specs.Prelude.{Option, Some, None, MatchOption}
use Rattle.std.specs.List.{HoldsAt, AllWithin}
use Rattle.std.proofs.lemmas.List.{take_all}
use lib.Arith.{half_le, mod-mul}
use Rattle.std.proofs.lemmas.Bool.{cases_lt}
use Rattle.std.proofs.lemmas.List.{take_more}
use Rattle.words.specs.Sets.{bit, Member}
use Rattle.words.specs.Words.{Columns, coded}
use Rattle.words.proofs.Bits.{bit_small, bit_of_zero, bit_low, bit_high}

-- bit p of set i is bit i of column p
pub coded_bit : (i p : ℕ) (w : List ℕ) → bit p (coded i w) ≡ bit i (get_or w p 0)
coded_bit i p [] = bit_of_zero p ∙ sym (bit_of_zero i)
coded_bit i zero (c ∷ w) = bit_low (bit i c) (coded i w) (bit_small i c)
coded_bit i (suc p) (c ∷ w) = bit_high p (bit i c) (coded i w) (bit_small i c) ∙ coded_bit i p w

pub coded_members : (i p : ℕ) (w : List ℕ) → Member p (coded i w) ↔ (bit i (get_or w p 0) ≡ 1)
coded_members i p w = ((λ m. sym (coded_bit i p w) ∙ m), (λ m. coded_bit i p w ∙ m))

pub coded_below : (i : ℕ) (w : List ℕ) → coded i w < 2 ^ length w
coded_below i [] = omega arith
coded_below i (c ∷ w) = omega (arith, coded_below i w, bit_small i c, pow-suc 2 (length w))

-- a word whose columns have, at bit i, the members of s codes as much of s as it is long
pub coded_by_bits : (i : ℕ) (w : List ℕ) (s : ℕ) → ((p : ℕ) → p < length w → bit i (get_or w p 0) ≡ bit p s) → coded i w ≡ s % 2 ^ length w
coded_by_bits i [] s same = omega arith
coded_by_bits i (c ∷ w) s same =
    let low : bit i c ≡ s % 2 = same 0 (omega arith) in
    let rest : coded i w ≡ s / 2 % 2 ^ length w = coded_by_bits i w (s / 2) (λ p h. same (suc p) (omega arith)) in
    let whole : s % (2 ^ length w * 2) ≡ (s / 2 % 2 ^ length w) * 2 + s % 2 = mod-mul s (pow_pos (length w)) (omega arith) in
    let long : s % 2 ^ suc (length w) ≡ s % (2 ^ length w * 2) = ap (λ m. s % m) (pow-suc 2 (length w)) in
    omega arith

-- ---- columns in range

pub columns_at : (n : ℕ) (w : List ℕ) (i : ℕ) → Columns n w → i < length w → get_or w i 0 < 2 ^ n
columns_at n [] i cs h = absurd (omega arith)
columns_at n (c ∷ w) zero cs h = cs.0
columns_at n (c ∷ w) (suc i) cs h = columns_at n w i cs.1 (omega arith)

pub columns_by : (n : ℕ) (w : List ℕ) → ((i : ℕ) → i < length w → get_or w i 0 < 2 ^ n) → Columns n w
columns_by n [] all = tt
columns_by n (c ∷ w) all = (all 0 (omega arith), columns_by n w (λ i h. all (suc i) (omega arith)))

pub columns_push : (n : ℕ) (w : List ℕ) (c : ℕ) → Columns n w → c < 2 ^ n → Columns n (w ++ c ∷ [])
columns_push n [] c cs h = (h, tt)
columns_push n (d ∷ w) c cs h = (cs.0, columns_push n w c cs.1 h)

pub columns_append : (n : ℕ) (u v : List ℕ) → Columns n u → Columns n v → Columns n (u ++ v)
columns_append n [] v cu cv = cv
columns_append n (c ∷ u) v cu cv = (cu.0, columns_append n u v cu.1 cv)

pub columns_zeros : (n k : ℕ) → Columns n (replicate k 0)
columns_zeros n zero = tt
columns_zeros n (suc k) = (pow_pos n, columns_zeros n k)

pub columns_front : (n : ℕ) (w : List ℕ) (c : ℕ) → Columns n (w ++ c ∷ []) → Columns n w
columns_front n [] c cs = tt
columns_front n (d ∷ w) c cs = (cs.0, columns_front n w c cs.1)

pub columns_last : (n : ℕ) (w : List ℕ) (c : ℕ) → Columns n (w ++ c ∷ []) → c < 2 ^ n
columns_last n [] c cs = cs.0
columns_last n (d ∷ w) c cs = columns_last n w c cs.1

-- one column more of a word
pub columns_more : (n : ℕ) (w : List ℕ) (i : ℕ) → i < length w → Columns n (take i w) → get_or w i 0 < 2 ^ n → Columns n (take (i + 1) w)
columns_more n w i within cs h =
    subst (Columns n) (sym (take_more w i 0 within)) (columns_push n (take i w) (get_or w i 0) cs h)

-- the front of a word whose first k columns are in range
columns_within : (n : ℕ) (w : List ℕ) (k : ℕ) → k ≤ length w → AllWithin (λ x. x < 2 ^ n) w 0 k → Columns n (take k w)
columns_within n w zero within all = tt
columns_within n w (suc k) within all =
    let front = columns_within n w k (omega (arith, within)) (λ i d low h. all i d low (omega (arith, h))) in
    let next : k + 1 ≡ suc k = omega arith in
    subst (λ j. Columns n (take j w)) next (columns_more n w k (omega (arith, within)) front (all k 0 (omega arith) (omega arith)))

-- what a search for the first column that is out of range comes to
pub first_out_of_range : (n : ℕ) (w : List ℕ) (r : Option ℕ)
    → MatchOption r (AllWithin (λ x. x < 2 ^ n) w 0 (length w))
    (λ i. (i < length w) × HoldsAt (λ x. 2 ^ n ≤ x) w i × AllWithin (λ x. x < 2 ^ n) w 0 i)
    → MatchOption r (Columns n w) (λ i. (i < length w) × (2 ^ n ≤ get_or w i 0) × Columns n (take i w))
first_out_of_range n w None all =
    subst (Columns n) (take_all (length w) w (omega arith)) (columns_within n w (length w) (omega arith) all)
first_out_of_range n w (Some i) h = (h.0, h.1 0, columns_within n w i (omega (arith, h.0)) h.2)

-- ---- every choice of n sets is coded

-- the column that holds the lowest positions of n sets
gather : ℕ → (ℕ → ℕ) → ℕ
gather zero f = 0
gather (suc n) f = f 0 % 2 + 2 * gather n (λ i. f (suc i))

gather_below : (n : ℕ) (f : ℕ → ℕ) → gather n f < 2 ^ n
unfolding gather
gather_below zero f = omega arith
gather_below (suc n) f = omega (arith, gather_below n (λ i. f (suc i)), pow-suc 2 n)

gather_bit : (n : ℕ) (f : ℕ → ℕ) (i : ℕ) → i < n → bit i (gather n f) ≡ f i % 2
unfolding gather
gather_bit zero f i h = absurd (omega arith)
gather_bit (suc n) f zero h = bit_low (f 0 % 2) (gather n (λ i. f (suc i))) (omega arith)
gather_bit (suc n) f (suc i) h =
    bit_high i (f 0 % 2) (gather n (λ i. f (suc i))) (omega arith) ∙ gather_bit n (λ i. f (suc i)) i (omega arith)

-- a number that no set of the choice passes
bound : ℕ → (ℕ → ℕ) → ℕ
bound zero f = 0
bound (suc n) f = f n + bound n f

bound_is : (n : ℕ) (f : ℕ → ℕ) (i : ℕ) → i < n → f i ≤ bound n f
unfolding bound
bound_is zero f i h = absurd (omega arith)
bound_is (suc n) f i h =
    ⊎_elim (λ below. omega (arith, bound_is n f i below)) (λ last. omega (arith, ap f (at_top last)))
    (cases_lt i n)
  where
    at_top : n ≤ i → i ≡ n
    at_top last = omega arith

spelled : (n m : ℕ) (f : ℕ → ℕ) → ((i : ℕ) → i < n → f i ≤ m) → (w : List ℕ) × Columns n w × ((i : ℕ) → i < n → coded i w ≡ f i)
spelled n zero f small = ([], tt, λ i h. let s : f i ≤ 0 = small i h in omega arith)
spelled n (suc m) f small =
    let rest = spelled n m (λ i. f i / 2) (λ i h. half_le (small i h)) in (
      gather n f ∷ rest.0,
      (gather_below n f, rest.1),
      λ i h. let low = gather_bit n f i h in let high = rest.2 i h in omega arith,
    )

pub every_choice : (n : ℕ) (choice : ℕ → ℕ) → (w : List ℕ) × Columns n w × ((i : ℕ) → i < n → coded i w ≡ choice i)
every_choice n choice = spelled n (bound n choice) choice (bound_is n choice)

-- ---- zeros at the end

coded_zeros : (i k : ℕ) → coded i (replicate k 0) ≡ 0
coded_zeros i zero = refl
coded_zeros i (suc k) = omega (arith, coded_zeros i k, bit_of_zero i)

pub zeros_at_end : (i k : ℕ) (w : List ℕ) → coded i (w ++ replicate k 0) ≡ coded i w
zeros_at_end i k [] = coded_zeros i k
zeros_at_end i k (c ∷ w) = ap (λ s. bit i c + 2 * s) (zeros_at_end i k w)
