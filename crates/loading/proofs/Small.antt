-- Numbers of 16 bits, in lists that are made of such lists.
use Rattle.std.proofs.Common.{◌≡◌, ℕ, zero, suc, ◌+◌, ◌-◌, ◌≤◌, List, ◌++◌, length, take, drop, get_or, replicate, length-take, sym, subst, ⊎_elim, arith}
use Rattle.std.proofs.lemmas.Bool.{cases_lt}
use Rattle.std.proofs.lemmas.List.{get_or-take, get_or-drop, get_or_append_left, get_or-append-add, get_or_past}
use Rattle.loading.specs.Drafts.{PutAt}

abbrev pub Sixteen : List ℕ → Type 0
Sixteen xs = (i : ℕ) → get_or xs i 0 ≤ 65535

append_small : (xs ys : List ℕ) → Sixteen xs → Sixteen ys → Sixteen (xs ++ ys)
append_small xs ys few more i =
    ⊎_elim (λ l. omega (arith, get_or_append_left xs ys 0 i l, few i))
    (λ l.
    let is : length xs + (i - length xs) ≡ i = omega arith in
    subst (λ j. get_or (xs ++ ys) j 0 ≤ 65535) is (omega (arith, get_or-append-add xs ys (i - length xs) 0, more (i - length xs))))
    (cases_lt i (length xs))

drop_small : (k : ℕ) (xs : List ℕ) → Sixteen xs → Sixteen (drop k xs)
drop_small k xs few i = omega (arith, get_or-drop k xs i 0, few (k + i))

pub take_small : (k : ℕ) (xs : List ℕ) → Sixteen xs → Sixteen (take k xs)
take_small k xs few i = ⊎_elim (λ l. omega (arith, get_or-take k xs i 0 l, few i)) (λ l. omega (arith, past i l)) (cases_lt i k)
  where
    past : (j : ℕ) → k ≤ j → get_or (take k xs) j 0 ≡ 0
    past j l = get_or_past (take k xs) j 0 (omega (arith, l, length-take k xs))

pub put_small : (base : ℕ) (zs xs ys : List ℕ) → PutAt base zs xs ys → Sixteen zs → Sixteen xs → Sixteen ys
put_small base zs xs ys put few more =
    subst Sixteen (sym put) (append_small (take base xs) (zs ++ drop (base + length zs) xs) (take_small base xs more)
    (append_small zs (drop (base + length zs) xs) few (drop_small (base + length zs) xs more)))

pub zeros_small : (k : ℕ) → Sixteen (replicate k 0)
zeros_small zero i = omega arith
zeros_small (suc k) zero = omega arith
zeros_small (suc k) (suc i) = zeros_small k i
