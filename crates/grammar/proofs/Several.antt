-- Several variables in a row.
use Rattle.std.proofs.Common.{◌≡◌, ℕ, suc, ◌+◌, ◌-◌, ◌<◌, ◌≤◌, List, [], ◌∷◌, ◌++◌, length, take, map, All, replicate, sym, ap, ◌∙◌, arith}
use Rattle.std.proofs.lemmas.List.{append_assoc, length-take, replicate-append-replicate}
use Rattle.grammar.specs.declared.flaw.Flawed.{Flawed}
use Rattle.grammar.specs.declared.source.Source.{Source}
use Rattle.grammar.specs.declared.step.Spot.{Spot}
use Rattle.grammar.specs.Claims.{variable_item}
use Rattle.grammar.specs.Faults.{Due, variable, fault}
use Rattle.grammar.specs.Sources.{left_of, Faulty}
use Rattle.grammar.proofs.Spelling.{variables_fault}

-- the first i of the variables that are due were found
pub record Found (s : Source) (at i : ℕ) (spots : List Spot) : Type 0 where
  pub four : length spots ≡ 4
  pub within : at + i ≤ length s.items.now
  pub items : left_of s at ≡ map variable_item (take i spots) ++ left_of s (at + i)
  pub fits : All (λ x. x.set < s.sets) (take i spots)

more_due : (k m : ℕ) → k ≡ suc m → replicate {A = Due} k variable ≡ variable ∷ replicate m variable
more_due k m e = ap (λ j. replicate j variable) e

split_dues : (i k : ℕ) → i < k → replicate {A = Due} k variable ≡ replicate i variable ++ (variable ∷ replicate (k - i - 1) variable)
split_dues i k low =
    sym (replicate-append-replicate i (k - i) variable ∙ ap (λ j. replicate j variable) (omega (arith, low)))
    ∙ ap (λ ds. replicate i variable ++ ds) (more_due (k - i) (k - i - 1) (omega (arith, low)))

-- a fault of the next one is a fault of all
pub later_fault : (s : Source) (at i places : ℕ) (spots : List Spot) (e : Flawed) → Found s at i spots → i < places → places ≤ 4
    → Faulty s (at + i) (variable ∷ []) e → Faulty s at (replicate places variable) e
later_fault s at i places spots e found low few faulty dues =
    let xs : List Spot = take i spots in
    let many : length xs ≡ i = length-take i spots ∙ omega (arith, found.four, low, few) in
    let after : List Due = replicate (places - i - 1) variable ++ dues in
    ap (λ ds. fault s.sets s.end (ds ++ dues) (left_of s at)) (split_dues i places low)
    ∙ ap (λ ds. fault s.sets s.end ds (left_of s at)) (append_assoc (replicate i variable) (variable ∷ replicate (places - i - 1) variable) dues)
    ∙ ap (fault s.sets s.end (replicate i variable ++ (variable ∷ after))) found.items
    ∙ ap (λ j. fault s.sets s.end (replicate j variable ++ (variable ∷ after)) (map variable_item xs ++ left_of s (at + i))) (sym many)
    ∙ variables_fault s.sets s.end xs found.fits (variable ∷ after) (left_of s (at + i)) ∙ faulty after
