-- The claims that are one predicate of the book: they are judged by the book's own automata.
use Rattle.std.proofs.Common.{◌≡◌, ℕ, ◌-◌, ◌<◌, ◌↔◌, List, [], ◌∷◌, map, sym, refl, ap, ◌∙◌, subst, arith}
use Rattle.std.specs.Prelude.{All, Some, codes, slice_index}
use Rattle.std.proofs.lemmas.List.Elements.{All-head, All-tail}
use Rattle.words.specs.Words.{coded}
use Rattle.words.proofs.Deciding.{each}
use Rattle.books.specs.Standard.{holds, sub_rows, one_rows, suc_rows, sum_rows}
use Rattle.books.specs.StandardRule.{standard_rule}
use Rattle.grammar.specs.declared.step.Spot.{Spot}
use Rattle.grammar.specs.Claims.{atom, free}
use Rattle.reading.specs.Meaning.{as_set, Codes, Satisfied}
use Rattle.worked.specs.Rows.{row, RowHolds}
use Rattle.judging.specs.declared.verdict.Verdict.TheVariants.{SomeSets}
use Rattle.worked.proofs.Lists.{all_of}
use Rattle.worked.proofs.Judging.{some_judged}
use Rattle.worked.proofs.Passing.{place_passes}

-- the variable that begins at a place
abbrev pub spot : ℕ → ℕ → ℕ → Spot
spot place letter set = record { place = place; letter = letter; set = set }

-- the sets that a word codes are those that its variables stand for
pub same_sets : (v : ℕ → ℕ) (w : List ℕ) (spots : List Spot) → Codes spots v w → map (λ x. coded x.set w) spots ≡ map (as_set v) spots
same_sets v w [] agree = refl
same_sets v w (x ∷ xs) agree =
    ap (λ s. s ∷ map (λ (y : Spot). coded y.set w) xs) (All-head (λ (y : Spot). coded y.set w ≡ as_set v y) x xs agree)
    ∙ ap (λ s. as_set v x ∷ s) (same_sets v w xs (All-tail (λ (y : Spot). coded y.set w ≡ as_set v y) x xs agree))

-- the letters A, B and so on stand for the sets 0, 1 and so on of a word
abbrev pub letters_of : List ℕ → ℕ → ℕ
letters_of w letter = coded (letter - 65) w

-- a predicate is satisfied where it holds of the sets that the word codes
pub atom_satisfied : (at p : ℕ) (spots : List Spot) → free [] (atom at p spots) ≡ spots → ((w : List ℕ) → Codes spots (letters_of w) w)
    → (w : List ℕ) → Satisfied holds (atom at p spots) w ↔ holds p (map (λ x. coded x.set w) spots)
atom_satisfied at p spots all_free codes w = (
  (λ s. subst (holds p) (sym (same_sets s.0 w spots (subst (λ xs. Codes xs s.0 w) all_free s.1))) s.2),
  (λ h. (letters_of w, subst (λ xs. Codes xs (letters_of w) w) (sym all_free) (codes w), subst (holds p) (same_sets (letters_of w) w spots (codes w)) h)),
)

-- ---- sub A B

abbrev two_spots : List Spot
two_spots = spot 4 65 0 ∷ spot 6 66 1 ∷ []

two_fit : All (λ x. x.set < 2) two_spots
two_fit = all_of (λ x. x.set < 2) two_spots (omega arith, (omega arith, tt))

two_codes : (w : List ℕ) → Codes two_spots (letters_of w) w
two_codes w = all_of (λ x. coded x.set w ≡ as_set (letters_of w) x) two_spots (refl, (refl, tt))

pub sub_row : RowHolds (row (codes "sub A B") 2 SomeSets 2 (Some []) (Some (1 ∷ [])))
sub_row = record {
  faultless = refl;
  claim = atom 0 0 two_spots;
  reads = record { spells = refl; fits = (omega arith, two_fit) };
  accepted = (place_passes 2 [] (omega arith) 0 (omega arith) (0 ∷ 1 ∷ []) refl (each 2 (λ j. slice_index (0 ∷ 1 ∷ []) j < 2) (omega arith, (omega arith, tt))) (omega arith), tt);
  judged =
      some_judged 2 2 sub_rows holds (atom 0 0 two_spots) (holds 0) (standard_rule.recognizes 0 (omega arith))
      (atom_satisfied 0 0 two_spots refl two_codes)
      ([] ∷ (1 ∷ []) ∷ []) ([] ∷ []) [] (1 ∷ []) refl refl refl refl;
}

-- ---- one A

abbrev one_spot : List Spot
one_spot = spot 4 65 0 ∷ []

pub one_row : RowHolds (row (codes "one A") 1 SomeSets 3 (Some (1 ∷ [])) (Some []))
one_row = record {
  faultless = refl;
  claim = atom 0 1 one_spot;
  reads = record { spells = refl; fits = (omega arith, all_of (λ x. x.set < 1) one_spot (omega arith, tt)) };
  accepted = (place_passes 1 [] (omega arith) 1 (omega arith) (0 ∷ []) refl (each 1 (λ j. slice_index (0 ∷ []) j < 1) (omega arith, tt)) (omega arith), tt);
  judged =
      some_judged 1 3 one_rows holds (atom 0 1 one_spot) (holds 1) (standard_rule.recognizes 1 (omega arith))
      (atom_satisfied 0 1 one_spot refl (λ w. all_of (λ x. coded x.set w ≡ as_set (letters_of w) x) one_spot (refl, tt)))
      ([] ∷ (1 ∷ []) ∷ (1 ∷ 1 ∷ []) ∷ []) ([] ∷ (1 ∷ []) ∷ []) (1 ∷ []) [] refl refl refl refl;
}

-- ---- suc A B

pub suc_row : RowHolds (row (codes "suc A B") 2 SomeSets 4 (Some (1 ∷ 2 ∷ [])) (Some []))
suc_row = record {
  faultless = refl;
  claim = atom 0 2 two_spots;
  reads = record { spells = refl; fits = (omega arith, two_fit) };
  accepted = (place_passes 2 [] (omega arith) 2 (omega arith) (0 ∷ 1 ∷ []) refl (each 2 (λ j. slice_index (0 ∷ 1 ∷ []) j < 2) (omega arith, (omega arith, tt))) (omega arith), tt);
  judged =
      some_judged 2 4 suc_rows holds (atom 0 2 two_spots) (holds 2) (standard_rule.recognizes 2 (omega arith))
      (atom_satisfied 0 2 two_spots refl two_codes)
      ([] ∷ (1 ∷ []) ∷ (1 ∷ 2 ∷ []) ∷ (2 ∷ []) ∷ []) ([] ∷ (2 ∷ []) ∷ (1 ∷ 2 ∷ []) ∷ []) (1 ∷ 2 ∷ []) [] refl refl refl refl;
}

-- ---- sum A B C

abbrev three_spots : List Spot
three_spots = spot 4 65 0 ∷ spot 6 66 1 ∷ spot 8 67 2 ∷ []

pub sum_row : RowHolds (row (codes "sum A B C") 3 SomeSets 3 (Some []) (Some (1 ∷ [])))
sum_row = record {
  faultless = refl;
  claim = atom 0 4 three_spots;
  reads = record { spells = refl; fits = (omega arith, all_of (λ x. x.set < 3) three_spots (omega arith, (omega arith, (omega arith, tt)))) };
  accepted = (
    place_passes 3 [] (omega arith) 4 (omega arith) (0 ∷ 1 ∷ 2 ∷ []) refl
        (each 3 (λ j. slice_index (0 ∷ 1 ∷ 2 ∷ []) j < 3) (omega arith, (omega arith, (omega arith, tt)))) (omega arith),
    tt,
  );
  judged =
      some_judged 3 3 sum_rows holds (atom 0 4 three_spots) (holds 4) (standard_rule.recognizes 4 (omega arith))
      (atom_satisfied 0 4 three_spots refl
      (λ w. all_of (λ x. coded x.set w ≡ as_set (letters_of w) x) three_spots (refl, (refl, (refl, tt)))))
      ([] ∷ (3 ∷ []) ∷ (1 ∷ []) ∷ []) ([] ∷ (4 ∷ []) ∷ []) [] (1 ∷ []) refl refl refl refl;
}
