-- The claims with quantifiers: two are true of everything, and one of nothing.
use Rattle.std.proofs.Common.{◌≡◌, ℕ, zero, suc, ◌+◌, ◌-◌, ◌^◌, ◌<◌, List, [], ◌∷◌, refl, sym, ◌∙◌, pow-suc, arith}
use Rattle.std.specs.Prelude.{Some, None, codes, slice_index}
use Rattle.words.specs.Sets.{bit, value}
use Rattle.words.specs.Words.{coded}
use Rattle.words.specs.Formulas.{Formula, placed, single, negation, both, hidden, Satisfies}
use Rattle.words.specs.Meanings.{SameAfter}
use Rattle.words.proofs.Bits.{bit_past, value_is}
use Rattle.words.proofs.Deciding.{each}
use Rattle.books.specs.Standard.{automaton, holds}
use Rattle.judging.specs.declared.verdict.Verdict.TheVariants.{NoSets, AllSets}
use Rattle.grammar.specs.declared.step.Spot.{Spot}
use Rattle.grammar.specs.Claims.{Claim, atom, some, every}
use Rattle.reading.specs.Meaning.{as_set, Meaning, Satisfied}
use Rattle.reading.proofs.Alone.{only_power, singleton_power}
use Rattle.worked.specs.Rows.{row, RowHolds}
use Rattle.worked.proofs.Atoms.{spot}
use Rattle.worked.proofs.Lists.{all_of}
use Rattle.worked.proofs.Judging.{all_judged, none_judged}
use Rattle.worked.proofs.Machines.{Machine, Knows, reader, reader_knows, idle, always_known, negation_known, pairs, both_known}
use Rattle.worked.proofs.Passing.{place_passes, single_passes, both_passes, hide_passes, negate_passes}

-- ---- for some C, C counts as much as A and B together

abbrev sum_spots : List Spot
sum_spots = spot 7 65 1 ∷ spot 9 66 2 ∷ spot 11 67 0 ∷ []

abbrev some_sum : Claim
some_sum = some 0 (spot 1 67 0) (atom 3 4 sum_spots)

-- A has set 1 and B set 2
abbrev stands_for : List ℕ → ℕ → ℕ
stands_for w letter = coded (letter - 64) w

sum_satisfied : (w : List ℕ) → Satisfied holds some_sum w
sum_satisfied w = (
  stands_for w,
  all_of (λ x. coded x.set w ≡ as_set (stands_for w) x) (spot 7 65 1 ∷ spot 9 66 2 ∷ []) (refl, (refl, tt)),
  (value (coded 1 w) + value (coded 2 w), sym (value_is (value (coded 1 w) + value (coded 2 w)))),
)

pub some_sum_row : RowHolds (row (codes "?C sum A B C") 3 AllSets 1 (Some []) None)
some_sum_row = record {
  faultless = refl;
  claim = some_sum;
  reads = record {
    spells = refl;
    fits = (omega arith, omega arith, (omega arith, all_of (λ x. x.set < 3) sum_spots (omega arith, (omega arith, (omega arith, tt)))));
  };
  accepted = (
    place_passes 3 [] (omega arith) 4 (omega arith) (1 ∷ 2 ∷ 0 ∷ []) refl
        (each 3 (λ j. slice_index (1 ∷ 2 ∷ 0 ∷ []) j < 3) (omega arith, (omega arith, (omega arith, tt)))) (omega arith),
    (
      hide_passes 3 0 (omega arith) (placed 4 (1 ∷ 2 ∷ 0 ∷ []))
          (reader 3 4 (1 ∷ 2 ∷ 0 ∷ []) (omega arith) refl) (reader_knows 3 4 (1 ∷ 2 ∷ 0 ∷ []) (omega arith) refl) (omega arith),
      tt,
    ),
  );
  judged = all_judged 3 holds some_sum sum_satisfied;
}

-- ---- for some X and each p, p is in X

abbrev member_spots : ℕ → ℕ → List Spot
member_spots p X = spot 9 112 p ∷ spot 11 88 X ∷ []

abbrev some_every : Claim
some_every = some 0 (spot 1 88 0) (every 2 (spot 3 112 1) (atom 5 0 (member_spots 1 0)))

below_power : (s : ℕ) → s < 2 ^ s
below_power zero = omega arith
below_power (suc s) = omega (arith, below_power s, pow-suc 2 s)

-- a finite set does not have itself, as a number, for a member
no_all : (v : ℕ → ℕ) → Meaning holds some_every v → ⊥
no_all v m =
    let X : ℕ = m.0 in
    let is_member : bit X X ≡ 1 = m.1 X X ((only_power X X).1 refl) in
    let z : ◌≡◌ {A = ℕ} 0 1 = sym (bit_past X X (below_power X)) ∙ is_member in
    omega arith

-- p is not in X, with p a position: pairs of states know the residual
abbrev no_member_machine : Machine 2 (automaton 0).states
no_member_machine = reader 2 0 (1 ∷ 0 ∷ []) (omega arith) refl

no_member_known : Knows no_member_machine (SameAfter 2 holds (negation (placed 0 (1 ∷ 0 ∷ []))))
no_member_known = negation_known no_member_machine (placed 0 (1 ∷ 0 ∷ [])) (reader_knows 2 0 (1 ∷ 0 ∷ []) (omega arith) refl)

abbrev lone_machine : ℕ → Machine 2 (automaton 1).states
lone_machine i = reader 2 1 (i ∷ []) (omega arith) refl

lone_known : (i : ℕ) → Knows (lone_machine i) (SameAfter 2 holds (single i))
lone_known i = reader_knows 2 1 (i ∷ []) (omega arith) refl

-- some position is not in X, whatever X is
abbrev some_out : Formula
some_out = hidden 1 (both (negation (placed 0 (1 ∷ 0 ∷ []))) (single 1))

always_out : (w : List ℕ) → Satisfies holds some_out w
always_out w =
    let X : ℕ = coded 0 w in (
      2 ^ X,
      (
        (λ inside.
            let is_member : bit X X ≡ 1 = inside X ((only_power X X).1 refl) in
            let z : ◌≡◌ {A = ℕ} 0 1 = sym (bit_past X X (below_power X)) ∙ is_member in
            omega arith),
        singleton_power X,
      ),
    )

pub some_every_row : RowHolds (row (codes "?X!p sub p X") 2 NoSets 1 None (Some []))
some_every_row = record {
  faultless = refl;
  claim = some_every;
  reads = record {
    spells = refl;
    fits = (omega arith, omega arith, (omega arith, omega arith, (omega arith, all_of (λ x. x.set < 2) (member_spots 1 0) (omega arith, (omega arith, tt)))));
  };
  accepted = (
    place_passes 2 [] (omega arith) 0 (omega arith) (1 ∷ 0 ∷ []) refl
        (each 2 (λ j. slice_index (1 ∷ 0 ∷ []) j < 2) (omega arith, (omega arith, tt))) (omega arith),
    (
      negate_passes 2 (placed 0 (1 ∷ 0 ∷ [])),
      (
        single_passes 2 (negation (placed 0 (1 ∷ 0 ∷ [])) ∷ []) (omega arith) 1 (omega arith),
        (
          both_passes 2 (negation (placed 0 (1 ∷ 0 ∷ []))) (single 1) no_member_machine (lone_machine 1) no_member_known (lone_known 1) (omega arith),
          (
            hide_passes 2 1 (omega arith) (both (negation (placed 0 (1 ∷ 0 ∷ []))) (single 1)) (pairs no_member_machine (lone_machine 1))
                (both_known no_member_machine (lone_machine 1) (negation (placed 0 (1 ∷ 0 ∷ []))) (single 1) no_member_known (lone_known 1)) (omega arith),
            (
              negate_passes 2 some_out,
              (
                hide_passes 2 0 (omega arith) (negation some_out) (idle 2)
                    (negation_known (idle 2) some_out (always_known 2 some_out always_out)) (omega arith),
                tt,
              ),
            ),
          ),
        ),
      ),
    ),
  );
  judged = none_judged 2 holds some_every no_all;
}

-- ---- for each p there is some X that has it

abbrev every_some : Claim
every_some = every 0 (spot 1 112 0) (some 2 (spot 3 88 1) (atom 5 0 (member_spots 0 1)))

every_satisfied : (w : List ℕ) → Satisfied holds every_some w
every_satisfied w = (
  (λ letter. 0),
  all_of (λ x. coded x.set w ≡ as_set (λ letter. 0) x) [] tt,
  (λ p. (2 ^ p, λ q member. member)),
)

-- some set has p in it, whatever p is
abbrev some_in : Formula
some_in = hidden 1 (placed 0 (0 ∷ 1 ∷ []))

always_in : (w : List ℕ) → Satisfies holds some_in w
always_in w = (coded 0 w, λ q member. member)

not_in_known : Knows (idle 2) (SameAfter 2 holds (negation some_in))
not_in_known = negation_known (idle 2) some_in (always_known 2 some_in always_in)

pub every_some_row : RowHolds (row (codes "!p?X sub p X") 2 AllSets 1 (Some []) None)
every_some_row = record {
  faultless = refl;
  claim = every_some;
  reads = record {
    spells = refl;
    fits = (omega arith, omega arith, (omega arith, omega arith, (omega arith, all_of (λ x. x.set < 2) (member_spots 0 1) (omega arith, (omega arith, tt)))));
  };
  accepted = (
    place_passes 2 [] (omega arith) 0 (omega arith) (0 ∷ 1 ∷ []) refl
        (each 2 (λ j. slice_index (0 ∷ 1 ∷ []) j < 2) (omega arith, (omega arith, tt))) (omega arith),
    (
      hide_passes 2 1 (omega arith) (placed 0 (0 ∷ 1 ∷ []))
          (reader 2 0 (0 ∷ 1 ∷ []) (omega arith) refl) (reader_knows 2 0 (0 ∷ 1 ∷ []) (omega arith) refl) (omega arith),
      (
        negate_passes 2 some_in,
        (
          single_passes 2 (negation some_in ∷ []) (omega arith) 0 (omega arith),
          (
            both_passes 2 (negation some_in) (single 0) (idle 2) (lone_machine 0) not_in_known (lone_known 0) (omega arith),
            (
              hide_passes 2 0 (omega arith) (both (negation some_in) (single 0)) (pairs (idle 2) (lone_machine 0))
                  (both_known (idle 2) (lone_machine 0) (negation some_in) (single 0) not_in_known (lone_known 0)) (omega arith),
              (negate_passes 2 (hidden 0 (both (negation some_in) (single 0))), tt),
            ),
          ),
        ),
      ),
    ),
  );
  judged = all_judged 2 holds every_some every_satisfied;
}
