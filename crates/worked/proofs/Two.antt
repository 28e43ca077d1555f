-- The claim that each of two sets has exactly one member, by an automaton that knows which of them have had theirs.
use Rattle.std.proofs.Common.{◌≡◌, ℕ, zero, suc, ◌+◌, ◌*◌, ◌<◌, Bool, true, false, ◌↔◌, List, [], ◌∷◌, sym, refl, subst, arith}
use Rattle.std.specs.Prelude.{Some, codes, slice_index}
use Rattle.std.proofs.lemmas.Bool.{false≢true}
use Rattle.words.specs.Sets.{Empty}
use Rattle.words.specs.Words.{coded}
use Rattle.words.specs.Relations.{Singleton, Binary}
use Rattle.words.specs.Formulas.{placed}
use Rattle.words.specs.Rows.{written}
use Rattle.words.proofs.Deciding.{each}
use Rattle.words.proofs.Reading.{empty_of_zero, empty_0, empty_1, only_of_zero, singleton_0, singleton_1}
use Rattle.books.specs.Rule.{Recognizes}
use Rattle.books.specs.Standard.{holds}
use Rattle.books.specs.WrittenRule.{written_recognizes}
use Rattle.judging.specs.declared.verdict.Verdict.TheVariants.{SomeSets}
use Rattle.grammar.specs.declared.step.Spot.{Spot}
use Rattle.grammar.specs.Claims.{Claim, atom, and}
use Rattle.reading.specs.Meaning.{as_set, Satisfied}
use Rattle.worked.specs.Rows.{row, RowHolds}
use Rattle.worked.proofs.Atoms.{spot, letters_of}
use Rattle.worked.proofs.Judging.{some_judged}
use Rattle.worked.proofs.Lists.{all_of, of_all}
use Rattle.worked.proofs.Machines.{reader, reader_knows}
use Rattle.worked.proofs.Passing.{place_passes, both_passes}

-- no member yet; A has its member; B has its member; both; one has two
abbrev two_rows : List ℕ
two_rows =
    0 ∷ 1 ∷ 2 ∷ 3 ∷ 0 ∷
    1 ∷ 4 ∷ 3 ∷ 4 ∷ 0 ∷
    2 ∷ 3 ∷ 4 ∷ 4 ∷ 0 ∷
    3 ∷ 4 ∷ 4 ∷ 4 ∷ 1 ∷
    4 ∷ 4 ∷ 4 ∷ 4 ∷ 0 ∷ []

-- what is still due of a set: a member, no member more, or it has too many
data Due : Type 0 where
  a_member : Due
  no_more : Due
  too_many : Due

abbrev Owes : Due → ℕ → Type 0
Owes a_member = Singleton
Owes no_more = Empty
Owes too_many = λ s. ⊥

-- a bit as a number, and what is due once it is read
abbrev number : Bool → ℕ
number false = 0
number true = 1

abbrev after : Due → Bool → Due
after a_member false = a_member
after a_member true = no_more
after no_more false = no_more
after no_more true = too_many
after too_many b = too_many

read_bit : (d : Due) (b : Bool) (s : ℕ) → Owes d (number b + 2 * s) ↔ Owes (after d b) s
read_bit a_member false s = singleton_0 s
read_bit a_member true s = singleton_1 s
read_bit no_more false s = empty_0 s
read_bit no_more true s = (empty_1 s, (λ none. absurd none))
read_bit too_many b s = ((λ none. none), (λ none. none))

-- both sets
abbrev OweBoth : Due → Due → ℕ → ℕ → Type 0
OweBoth d e a b = Owes d a × Owes e b

goes : (d e : Due) (b c : Bool) (w : List ℕ)
    → OweBoth d e (number b + 2 * coded 0 w) (number c + 2 * coded 1 w) ↔ OweBoth (after d b) (after e c) (coded 0 w) (coded 1 w)
goes d e b c w =
    let left = read_bit d b (coded 0 w) in
    let right = read_bit e c (coded 1 w) in
    ((λ h. (left.0 h.0, right.0 h.1)), (λ h. (left.1 h.0, right.1 h.1)))

-- the first set gets too many, or the second
first_lost : (e : Due) (c : Bool) (w : List ℕ) → OweBoth no_more e (1 + 2 * coded 0 w) (number c + 2 * coded 1 w) ↔ ⊥
first_lost e c w = ((λ h. empty_1 (coded 0 w) h.0), (λ none. absurd none))

second_lost : (d : Due) (b : Bool) (w : List ℕ) → OweBoth d no_more (number b + 2 * coded 0 w) (1 + 2 * coded 1 w) ↔ ⊥
second_lost d b w = ((λ h. empty_1 (coded 1 w) h.1), (λ none. absurd none))

-- what each state knows, and that from the last one no word is accepted
abbrev Lost : List ℕ → Type 0
Lost s = ⊥

abbrev TwoState : ℕ → List ℕ → Type 0
TwoState zero = Binary (OweBoth a_member a_member)
TwoState (suc zero) = Binary (OweBoth no_more a_member)
TwoState (suc (suc zero)) = Binary (OweBoth a_member no_more)
TwoState (suc (suc (suc zero))) = Binary (OweBoth no_more no_more)
TwoState (suc (suc (suc (suc s)))) = Lost

-- an accepting state, whose meaning holds of the empty sets; another, whose meaning fails of them
accepting : {M : Type 0} → M → ◌↔◌ (◌≡◌ {A = Bool} true true) M
accepting m = ((λ _. m), (λ _. refl))

failing : {M : Type 0} → (M → ⊥) → ◌↔◌ (◌≡◌ {A = Bool} false true) M
failing none = ((λ e. absurd (false≢true e)), (λ m. absurd (none m)))

zero_lone : Singleton 0 → ⊥
zero_lone s = only_of_zero s.0 s.1

lost : ⊥ ↔ ⊥
lost = ((λ none. none), (λ none. none))

two_recognizes : Recognizes (written 2 5 two_rows) (TwoState 0)
two_recognizes = written_recognizes 2 5 two_rows TwoState (omega arith) (omega arith) refl (
  failing (λ h. zero_lone h.0),
  (
    failing (λ h. zero_lone h.1),
    (failing (λ h. zero_lone h.0), (accepting (empty_of_zero, empty_of_zero), (failing (λ none. none), tt))),
  ),
) (
  (goes a_member a_member false false, (goes a_member a_member true false, (goes a_member a_member false true, (goes a_member a_member true true, tt)))),
  (
    (goes no_more a_member false false, (first_lost a_member false, (goes no_more a_member false true, (first_lost a_member true, tt)))),
    (
      (goes a_member no_more false false, (goes a_member no_more true false, (second_lost a_member false, (second_lost a_member true, tt)))),
      (
        (goes no_more no_more false false, (first_lost no_more false, (second_lost no_more false, (first_lost no_more true, tt)))),
        (((λ w. lost), ((λ w. lost), ((λ w. lost), ((λ w. lost), tt)))), tt),
      ),
    ),
  ),
)

-- ---- & one A one B

abbrev spots : List Spot
spots = spot 6 65 0 ∷ spot 12 66 1 ∷ []

abbrev both_one : Claim
both_one = and 0 (atom 2 1 (spot 6 65 0 ∷ [])) (atom 8 1 (spot 12 66 1 ∷ []))

two_satisfied : (w : List ℕ) → Satisfied holds both_one w ↔ (Singleton (coded 0 w) × Singleton (coded 1 w))
two_satisfied w = (
  (λ s.
      let codes = of_all (λ x. coded x.set w ≡ as_set s.0 x) spots s.1 in
      (subst Singleton (sym codes.0) s.2.0, subst Singleton (sym codes.1.0) s.2.1)),
  (λ h. (letters_of w, all_of (λ x. coded x.set w ≡ as_set (letters_of w) x) spots (refl, (refl, tt)), h)),
)

pub two_row : RowHolds (row (codes "& one A one B") 2 SomeSets 5 (Some (3 ∷ [])) (Some []))
two_row = record {
  faultless = refl;
  claim = both_one;
  reads = record {
    spells = refl;
    fits = (
      omega arith,
      (omega arith, all_of (λ x. x.set < 2) (spot 6 65 0 ∷ []) (omega arith, tt)),
      (omega arith, all_of (λ x. x.set < 2) (spot 12 66 1 ∷ []) (omega arith, tt)),
    );
  };
  accepted = (
    place_passes 2 [] (omega arith) 1 (omega arith) (0 ∷ []) refl (each 1 (λ j. slice_index (0 ∷ []) j < 2) (omega arith, tt)) (omega arith),
    (
      place_passes 2 (placed 1 (0 ∷ []) ∷ []) (omega arith) 1 (omega arith) (1 ∷ []) refl
          (each 1 (λ j. slice_index (1 ∷ []) j < 2) (omega arith, tt)) (omega arith),
      (
        both_passes 2 (placed 1 (0 ∷ [])) (placed 1 (1 ∷ []))
            (reader 2 1 (0 ∷ []) (omega arith) refl) (reader 2 1 (1 ∷ []) (omega arith) refl)
            (reader_knows 2 1 (0 ∷ []) (omega arith) refl) (reader_knows 2 1 (1 ∷ []) (omega arith) refl) (omega arith),
        tt,
      ),
    ),
  );
  judged =
      some_judged 2 5 two_rows holds both_one (TwoState 0) two_recognizes two_satisfied
      ([] ∷ (1 ∷ []) ∷ (2 ∷ []) ∷ (3 ∷ []) ∷ (1 ∷ 1 ∷ []) ∷ []) ([] ∷ (1 ∷ []) ∷ (2 ∷ []) ∷ (3 ∷ []) ∷ [])
      (3 ∷ []) [] refl refl refl refl;
}
