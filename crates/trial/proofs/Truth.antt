-- A word whose output was corrected: what it codes, and when the book's sum holds of it.
use Rattle.std.proofs.Common.{◌≡◌, ℕ, ◌+◌, ◌%◌, ◌^◌, ◌<◌, ◌≤◌, Bool, false, List, length, get_or, Ok, Err, Result, Decides, ap, ◌∙◌, subst, lt_of_lt_of_le, mod-lt, mod-eq_of_lt, pow-suc, add-one, arith, pow_pos, pow_mono}
use Rattle.words.specs.Sets.{bit}
use Rattle.words.specs.Words.{Columns, coded}
use Rattle.words.specs.Relations.{Sum, Ternary}
use Rattle.words.proofs.Bits.{bit_small}
use Rattle.words.proofs.Coding.{coded_bit, coded_below, coded_by_bits, columns_at, columns_by}
use Rattle.words.proofs.Reading.{sum_plain}
use Rattle.std.specs.Result.{result_unwrap_or}
use Rattle.books.specs.Question.{Answers}
use Rattle.books.specs.declared.question.NoAnswer.{NoAnswer}
use Rattle.books.specs.declared.question.NoAnswer.TheVariants.{NoPredicate, NoColumn}
use Rattle.trial.specs.Examined.{Corrected, Found}

-- of columns in range, `sum` is never without an answer
pub answered : (w : List ℕ) (r : Result Bool NoAnswer) → Answers 6 3 (Ternary Sum) 4 w r → Columns 3 w
    → Decides (result_unwrap_or r false) (Sum (coded 0 w) (coded 1 w) (coded 2 w))
answered w (Ok b) answers fit = answers.2
answered w (Err NoPredicate) answers fit = absurd (omega arith)
answered w (Err (NoColumn i)) answers fit =
    let out = answers.2 in
    absurd (omega (arith, columns_at 3 w i fit answers.1))

module _ (w : List ℕ) (s n : ℕ) (v : List ℕ) (is : Corrected w s n v) where
  pub corrected_fit : Columns 3 v
  corrected_fit = columns_by 3 v (λ p h. let at : p < n = subst (λ k. p < k) is.long h in omega (arith, is.column p at, bit_small 0 (get_or w p 0), bit_small 1 (get_or w p 0), bit_small p s))

  -- one set of it, from its bits
  coded_is : (i t : ℕ) → ((p : ℕ) → p < n → bit i (get_or v p 0) ≡ bit p t) → coded i v ≡ t % 2 ^ n
  coded_is i t same =
      coded_by_bits i v t (λ p h. same p (subst (λ k. p < k) is.long h)) ∙ ap (λ k. t % 2 ^ k) is.long

  pub output_is : coded 2 v ≡ s % 2 ^ n
  output_is = coded_is 2 s (λ p h. omega (arith, is.column p h, bit_small 0 (get_or w p 0), bit_small 1 (get_or w p 0), bit_small p s))

  pub first_is : length w ≤ n → coded 0 v ≡ coded 0 w
  first_is long =
      coded_is 0 (coded 0 w) (λ p h. omega (arith, coded_bit 0 p w, is.column p h, bit_small 0 (get_or w p 0), bit_small 1 (get_or w p 0), bit_small p s))
      ∙ mod-eq_of_lt (lt_of_lt_of_le (coded_below 0 w) (pow_mono long))

  pub second_is : length w ≤ n → coded 1 v ≡ coded 1 w
  second_is long =
      coded_is 1 (coded 1 w) (λ p h. omega (arith, coded_bit 1 p w, is.column p h, bit_small 0 (get_or w p 0), bit_small 1 (get_or w p 0), bit_small p s))
      ∙ mod-eq_of_lt (lt_of_lt_of_le (coded_below 1 w) (pow_mono long))

-- what `sum` says of the corrected word, and of the word itself
pub corrected_sums : (w : List ℕ) (s n : ℕ) (v : List ℕ) → Corrected w s n v → length w ≤ n → (b : Bool)
    → (Columns 3 v → Decides b (Sum (coded 0 v) (coded 1 v) (coded 2 v))) → Decides b (Sum (coded 0 w) (coded 1 w) (s % 2 ^ n))
corrected_sums w s n v is long b says =
    subst (λ x. Decides b (Sum x (coded 1 w) (s % 2 ^ n))) (first_is w s n v is long)
    (subst (λ y. Decides b (Sum (coded 0 v) y (s % 2 ^ n))) (second_is w s n v is long)
    (subst (λ z. Decides b (Sum (coded 0 v) (coded 1 v) z)) (output_is w s n v is) (says (corrected_fit w s n v is))))

-- a + b is a sum within n columns exactly when it has room there
pub room_is : (a b n : ℕ) (t : Bool) → Decides t (Sum a b ((a + b) % 2 ^ n)) → Decides t (a + b < 2 ^ n)
room_is a b n t says = (
  (λ e. let whole = (sum_plain a b ((a + b) % 2 ^ n)).1 (says.0 e) in omega (arith, whole, mod-lt (a + b) (pow_pos n))),
  (λ h. says.1 ((sum_plain a b ((a + b) % 2 ^ n)).0 (omega (arith, mod-eq_of_lt h)))),
)

pow_mono_is : (i j : ℕ) → i ≤ j → 2 ^ i ≤ 2 ^ j
pow_mono_is i j h = pow_mono h

-- with one column more there is room
pub room_more : (w : List ℕ) → coded 0 w + coded 1 w < 2 ^ (length w + 1)
room_more w =
    omega (arith, coded_below 0 w, coded_below 1 w, ap (λ k. 2 ^ k) (add-one (length w)), pow-suc 2 (length w))

-- the same where the inputs were read as x and y
module _ (w : List ℕ) (x y : ℕ) (first : x ≡ coded 0 w) (second : y ≡ coded 1 w) where
  added : x + y ≡ coded 0 w + coded 1 w
  added = omega arith

  at_truth : (n : ℕ) (b : Bool) → Decides b (Sum (coded 0 w) (coded 1 w) ((x + y) % 2 ^ n)) → Decides b (coded 0 w + coded 1 w < 2 ^ n)
  at_truth n b says =
      room_is (coded 0 w) (coded 1 w) n b (subst (λ s. Decides b (Sum (coded 0 w) (coded 1 w) (s % 2 ^ n))) added says)

  pub fits_word : length w ≤ 63 → x + y < 2 ^ 64
  fits_word short =
      omega (arith, coded_below 0 w, coded_below 1 w, pow_mono_is (length w) 63 short)

  pub found : (said : ℕ) (right room whole : Bool) → said ≡ coded 2 w
      → Decides right (Sum (coded 0 w) (coded 1 w) (coded 2 w))
      → Decides room (Sum (coded 0 w) (coded 1 w) ((x + y) % 2 ^ length w))
      → Decides whole (Sum (coded 0 w) (coded 1 w) ((x + y) % 2 ^ (length w + 1)))
      → Found w (record { first = x; second = y; said = said; truth = x + y; right = right; room = room; whole = whole })
  found said right room whole third says within beyond = record {
    first = first;
    second = second;
    said = third;
    truth = added;
    right = says;
    room = at_truth (length w) room within;
    whole = (at_truth (length w + 1) whole beyond).1 (room_more w);
  }
