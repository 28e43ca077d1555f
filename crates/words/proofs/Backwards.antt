-- A list that is read from its end, as a number in binary: what was read already stands behind what is left.
use Rattle.std.proofs.Common.{◌≡◌, ℕ, ◌+◌, ◌*◌, ◌^◌, ◌<◌, ◌≤◌, List, [], ◌∷◌, ◌++◌, length, sym, ap, ◌∙◌, subst, lt_of_lt_of_le, arith, pow_mono}
use Rattle.std.proofs.lemmas.List.{append_assoc, length-append}

pub record Read (value : List ℕ → ℕ) (whole rest : List ℕ) (sum : ℕ) : Type 0 where
  pub read : List ℕ
  pub split : whole ≡ rest ++ read
  pub is : sum ≡ value read

-- each element is a digit before those behind it
module _ (digit : ℕ → ℕ) (value : List ℕ → ℕ) (step : (x : ℕ) (xs : List ℕ) → value (x ∷ xs) ≡ digit x + 2 * value xs) where
  pub read_more : (whole rest left : List ℕ) (x sum next : ℕ) → Read value whole rest sum → rest ≡ left ++ x ∷ [] → next ≡ 2 * sum + digit x → Read value whole left next
  read_more whole rest left x sum next so split is = record {
    read = x ∷ so.read;
    split = so.split ∙ ap (λ r. r ++ so.read) split ∙ append_assoc left (x ∷ []) so.read;
    is = let e = so.is in omega (arith, is, e, step x so.read);
  }

-- a number of so many digits fits
pub read_fits : (value : List ℕ → ℕ) → ((xs : List ℕ) → value xs < 2 ^ length xs)
    → (whole rest : List ℕ) (sum digits : ℕ) → length whole ≤ digits → Read value whole rest sum → sum < 2 ^ digits
read_fits value small whole rest sum digits short so =
    let few : length so.read ≤ digits = omega (arith, short, ap length so.split, length-append rest so.read) in
    subst (λ s. s < 2 ^ digits) (sym so.is) (lt_of_lt_of_le (small so.read) (pow_mono few))
