-- The standard book keeps the set rule: for each predicate the meaning of each state, and that its row keeps it.
use Rattle.std.specs.Prelude.{◌≡◌, ℕ, zero, suc, ◌+◌, ◌*◌, ◌<◌, Bool, true, false, ◌↔◌, List, [], ◌∷◌, refl}
use Rattle.std.proofs.Common.{arith}
use Rattle.std.proofs.lemmas.Bool.{false≢true}
use Rattle.std.proofs.lemmas.List.{get_or_past}
use Rattle.words.specs.Sets.{Empty, Only}
use Rattle.words.specs.Words.{coded, sets}
use Rattle.words.specs.Relations.{Within, Singleton, Successor, Less, Sum, Unary, Binary, Ternary}
use Rattle.words.specs.Rows.{written}
use Rattle.words.proofs.Reading.{neither, empty_of_zero, empty_0, empty_1, only_zero_0, only_zero_1, only_of_zero, singleton_0, singleton_1, within_on, within_off, successor_00, successor_10, successor_1, less_00, less_10, less_1, sum_plain}
use Rattle.words.proofs.Deciding.{Each, each}
use Rattle.books.specs.Rule.{Recognizes, SetRule}
use Rattle.books.specs.WrittenRule.{written_silent, written_recognizes}
use Rattle.books.specs.Standard.{sub_rows, one_rows, suc_rows, les_rows, sum_rows, emp_rows, count, places, states, rows, automaton, holds}

-- an accepting state, whose meaning holds of the empty sets; another, whose meaning fails of them
accepting : {M : Type 0} → M → ◌↔◌ (◌≡◌ {A = Bool} true true) M
accepting m = ((λ _. m), (λ _. refl))

failing : {M : Type 0} → (M → ⊥) → ◌↔◌ (◌≡◌ {A = Bool} false true) M
failing none = ((λ e. absurd (false≢true e)), (λ m. absurd (none m)))

never : ⊥ → ⊥
never x = x

-- A state from which no word is accepted.
abbrev Lost : List ℕ → Type 0
Lost s = ⊥

abbrev lost : ◌↔◌ ⊥ ⊥
lost = (never, never)

all_lost : Each 4 (λ c. (w : List ℕ) → ⊥ ↔ ⊥)
all_lost = ((λ w. lost), ((λ w. lost), ((λ w. lost), ((λ w. lost), tt))))

-- ---- sub

abbrev SubState : ℕ → List ℕ → Type 0
SubState zero = Binary Within
SubState (suc s) = Lost

sub_recognizes : Recognizes (written 2 2 sub_rows) (Binary Within)
sub_recognizes = written_recognizes 2 2 sub_rows SubState (omega arith) (omega arith) refl
    (accepting (λ p m. m), (failing never, tt)) (
      (
        (λ w. on 0 0 w (omega arith) (omega arith) (λ e. e)),
        (
          (λ w. neither (within_off (coded 0 w) (coded 1 w)) never),
          (
            (λ w. on 0 1 w (omega arith) (omega arith) (λ e. refl)),
            ((λ w. on 1 1 w (omega arith) (omega arith) (λ e. refl)), tt),
          ),
        ),
      ),
      (all_lost, tt),
    )
  where
    on : (d e : ℕ) (w : List ℕ) → d < 2 → e < 2 → (d ≡ 1 → e ≡ 1)
        → Within (d + 2 * coded 0 w) (e + 2 * coded 1 w) ↔ Within (coded 0 w) (coded 1 w)
    on d e w = within_on d e (coded 0 w) (coded 1 w)

-- ---- one

abbrev OneState : ℕ → List ℕ → Type 0
OneState zero = Unary Singleton
OneState (suc zero) = Unary Empty
OneState (suc (suc s)) = Lost

one_recognizes : Recognizes (written 1 3 one_rows) (Unary Singleton)
one_recognizes = written_recognizes 1 3 one_rows OneState (omega arith) (omega arith) refl
    (failing (λ s. only_of_zero s.0 s.1), (accepting empty_of_zero, (failing never, tt))) (
      ((λ w. singleton_0 (coded 0 w)), ((λ w. singleton_1 (coded 0 w)), tt)),
      (
        ((λ w. empty_0 (coded 0 w)), ((λ w. neither (empty_1 (coded 0 w)) never), tt)),
        (((λ w. lost), ((λ w. lost), tt)), tt),
      ),
    )

-- ---- two sets without members, as suc and les know them once both were seen

abbrev BothEmpty : ℕ → ℕ → Type 0
BothEmpty a b = Empty a × Empty b

both_00 : (a b : ℕ) → BothEmpty (0 + 2 * a) (0 + 2 * b) ↔ BothEmpty a b
both_00 a b =
    ((λ h. ((empty_0 a).0 h.0, (empty_0 b).0 h.1)), (λ h. ((empty_0 a).1 h.0, (empty_0 b).1 h.1)))

abbrev BothNext : ℕ → ℕ → ℕ → Type 0
BothNext zero a b = BothEmpty a b
BothNext (suc c) a b = ⊥

both_row : Each 4 (λ c. (w : List ℕ) → Binary BothEmpty (sets 2 (c ∷ w)) ↔ BothNext c (coded 0 w) (coded 1 w))
both_row = (
  (λ w. both_00 (coded 0 w) (coded 1 w)),
  (
    (λ w. neither (λ h. empty_1 (coded 0 w) h.0) never),
    (
      (λ w. neither (λ h. empty_1 (coded 1 w) h.1) never),
      ((λ w. neither (λ h. empty_1 (coded 0 w) h.0) never), tt),
    ),
  ),
)

-- ---- suc

abbrev EmptyAndZero : ℕ → ℕ → Type 0
EmptyAndZero a b = Empty a × Only 0 b

abbrev SucState : ℕ → List ℕ → Type 0
SucState zero = Binary Successor
SucState (suc zero) = Binary EmptyAndZero
SucState (suc (suc zero)) = Binary BothEmpty
SucState (suc (suc (suc s))) = Lost

suc_recognizes : Recognizes (written 2 4 suc_rows) (Binary Successor)
suc_recognizes = written_recognizes 2 4 suc_rows SucState (omega arith) (omega arith) refl (
  failing (λ s. only_of_zero s.0 s.1),
  (failing (λ s. only_of_zero 0 s.1), (accepting (empty_of_zero, empty_of_zero), (failing never, tt))),
) (
  (
    (λ w. successor_00 (coded 0 w) (coded 1 w)),
    (
      (λ w. successor_10 (coded 0 w) (coded 1 w)),
      (
        (λ w. neither (successor_1 (0 + 2 * coded 0 w) (coded 1 w)) never),
        ((λ w. neither (successor_1 (1 + 2 * coded 0 w) (coded 1 w)) never), tt),
      ),
    ),
  ),
  (
    (
      (λ w. neither (λ h. only_zero_0 (coded 1 w) h.1) never),
      (
        (λ w. neither (λ h. empty_1 (coded 0 w) h.0) never),
        (
          (λ w. due (coded 0 w) (coded 1 w)),
          ((λ w. neither (λ h. empty_1 (coded 0 w) h.0) never), tt),
        ),
      ),
    ),
    (both_row, (all_lost, tt)),
  ),
)
  where
    due : (a b : ℕ) → EmptyAndZero (0 + 2 * a) (1 + 2 * b) ↔ BothEmpty a b
    due a b = ((λ h. ((empty_0 a).0 h.0, (only_zero_1 b).0 h.1)), (λ h. ((empty_0 a).1 h.0, (only_zero_1 b).1 h.1)))

-- ---- les

abbrev EmptyAndSingle : ℕ → ℕ → Type 0
EmptyAndSingle a b = Empty a × Singleton b

abbrev LesState : ℕ → List ℕ → Type 0
LesState zero = Binary Less
LesState (suc zero) = Binary EmptyAndSingle
LesState (suc (suc zero)) = Binary BothEmpty
LesState (suc (suc (suc s))) = Lost

les_recognizes : Recognizes (written 2 4 les_rows) (Binary Less)
les_recognizes = written_recognizes 2 4 les_rows LesState (omega arith) (omega arith) refl (
  failing (λ s. only_of_zero s.0 s.2),
  (failing (λ s. only_of_zero s.1.0 s.1.1), (accepting (empty_of_zero, empty_of_zero), (failing never, tt))),
) (
  (
    (λ w. less_00 (coded 0 w) (coded 1 w)),
    (
      (λ w. less_10 (coded 0 w) (coded 1 w)),
      (
        (λ w. neither (less_1 (0 + 2 * coded 0 w) (coded 1 w)) never),
        ((λ w. neither (less_1 (1 + 2 * coded 0 w) (coded 1 w)) never), tt),
      ),
    ),
  ),
  (
    (
      (λ w. wait (coded 0 w) (coded 1 w)),
      (
        (λ w. neither (λ h. empty_1 (coded 0 w) h.0) never),
        (
          (λ w. met (coded 0 w) (coded 1 w)),
          ((λ w. neither (λ h. empty_1 (coded 0 w) h.0) never), tt),
        ),
      ),
    ),
    (both_row, (all_lost, tt)),
  ),
)
  where
    wait : (a b : ℕ) → EmptyAndSingle (0 + 2 * a) (0 + 2 * b) ↔ EmptyAndSingle a b
    wait a b = ((λ h. ((empty_0 a).0 h.0, (singleton_0 b).0 h.1)), (λ h. ((empty_0 a).1 h.0, (singleton_0 b).1 h.1)))

    met : (a b : ℕ) → EmptyAndSingle (0 + 2 * a) (1 + 2 * b) ↔ BothEmpty a b
    met a b = ((λ h. ((empty_0 a).0 h.0, (singleton_1 b).0 h.1)), (λ h. ((empty_0 a).1 h.0, (singleton_1 b).1 h.1)))

-- ---- sum

-- with a carry of k, the first and the second come to the third
abbrev Carried : ℕ → ℕ → ℕ → ℕ → Type 0
Carried k a b c = a + b + k ≡ c

abbrev SumState : ℕ → List ℕ → Type 0
SumState zero = Ternary (Carried 0)
SumState (suc zero) = Ternary (Carried 1)
SumState (suc (suc s)) = Lost

-- a column with the bits x, y and z, whose third is right: from the carry k to the carry l
goes : (k l x y z : ℕ) → x + y + k ≡ z + 2 * l → (w : List ℕ)
    → Carried k (x + 2 * coded 0 w) (y + 2 * coded 1 w) (z + 2 * coded 2 w) ↔ Carried l (coded 0 w) (coded 1 w) (coded 2 w)
goes k l x y z right w = ((λ h. omega arith), (λ h. omega arith))

-- a column whose third bit is wrong
stops : (k l x y z : ℕ) → x + y + k + 1 ≡ z + 2 * l → (w : List ℕ)
    → Carried k (x + 2 * coded 0 w) (y + 2 * coded 1 w) (z + 2 * coded 2 w) ↔ ⊥
stops k l x y z wrong w = neither (λ h. omega arith) never

carried_recognizes : Recognizes (written 3 3 sum_rows) (Ternary (Carried 0))
carried_recognizes = written_recognizes 3 3 sum_rows SumState (omega arith) (omega arith) refl
    (accepting refl, (failing (λ h. omega arith), (failing never, tt))) (
      (
        goes 0 0 0 0 0 refl,
        (
          stops 0 1 1 0 0 refl,
          (
            stops 0 1 0 1 0 refl,
            (
              goes 0 1 1 1 0 refl,
              (stops 0 0 0 0 1 refl, (goes 0 0 1 0 1 refl, (goes 0 0 0 1 1 refl, (stops 0 1 1 1 1 refl, tt)))),
            ),
          ),
        ),
      ),
      (
        (
          stops 1 1 0 0 0 refl,
          (
            goes 1 1 1 0 0 refl,
            (
              goes 1 1 0 1 0 refl,
              (
                stops 1 2 1 1 0 refl,
                (goes 1 0 0 0 1 refl, (stops 1 1 1 0 1 refl, (stops 1 1 0 1 1 refl, (goes 1 1 1 1 1 refl, tt)))),
              ),
            ),
          ),
        ),
        (((λ w. lost), ((λ w. lost), ((λ w. lost), ((λ w. lost), ((λ w. lost), ((λ w. lost), ((λ w. lost), ((λ w. lost), tt)))))))), tt),
      ),
    )

sum_recognizes : Recognizes (written 3 3 sum_rows) (Ternary Sum)
sum_recognizes = record {
  places = carried_recognizes.places;
  states = carried_recognizes.states;
  start = carried_recognizes.start;
  step = carried_recognizes.step;
  means = λ w cs.
      let plain = sum_plain (coded 0 w) (coded 1 w) (coded 2 w) in
      ((λ a. plain.0 ((carried_recognizes.means w cs).0 a)), (λ m. (carried_recognizes.means w cs).1 (plain.1 m)));
}

-- ---- emp

abbrev EmpState : ℕ → List ℕ → Type 0
EmpState zero = Unary Empty
EmpState (suc s) = Lost

emp_recognizes : Recognizes (written 1 2 emp_rows) (Unary Empty)
emp_recognizes = written_recognizes 1 2 emp_rows EmpState (omega arith) (omega arith) refl
    (accepting empty_of_zero, (failing never, tt))
    (((λ w. empty_0 (coded 0 w)), ((λ w. neither (empty_1 (coded 0 w)) never), tt)), (((λ w. lost), ((λ w. lost), tt)), tt))

-- ---- the book

pub standard_rule : SetRule count automaton holds
standard_rule = record {
  few = omega arith;
  recognizes = each 6 (λ p. Recognizes (automaton p) (holds p))
      (sub_recognizes, (one_recognizes, (suc_recognizes, (les_recognizes, (sum_recognizes, (emp_recognizes, tt))))));
  absent = λ p past. record { places = get_or_past (2 ∷ 1 ∷ 2 ∷ 2 ∷ 3 ∷ 1 ∷ []) p 0 past; states = get_or_past (2 ∷ 3 ∷ 4 ∷ 4 ∷ 3 ∷ 2 ∷ []) p 0 past; start = refl };
  silent = λ p. written_silent (places p) (states p) (rows p);
}
