-- Words read through listed sets: the place columns that they give code the listed sets, in their order.
use Rattle.std.proofs.Common.{◌≡◌, ℕ, zero, suc, ◌+◌, ◌*◌, ◌^◌, ◌<◌, List, [], ◌∷◌, map, length, get_or, sym, refl, ◌∙◌, subst, ap₂, pow-suc, arith}
use Rattle.std.proofs.lemmas.List.{ext_get_or, get_or-map, length-map}
use Rattle.std.proofs.lemmas.List.FromFn.{length-map-range_with_len, get_or-map-range_with_len}
use Rattle.words.specs.Sets.{bit}
use Rattle.words.specs.Words.{Columns, coded, sets}
use Rattle.words.specs.Automata.{run}
use Rattle.words.specs.Formulas.{through}
use Rattle.words.proofs.Bits.{bit_small, bit_low, bit_high}

pub through_below : (places : List ℕ) (c : ℕ) → through places c < 2 ^ length places
through_below [] c = omega arith
through_below (i ∷ places) c = omega (arith, through_below places c, bit_small i c, pow-suc 2 (length places))

pub through_bit : (places : List ℕ) (j c : ℕ) → j < length places → bit j (through places c) ≡ bit (get_or places j 0) c
through_bit [] j c h = absurd (omega arith)
through_bit (i ∷ places) zero c h = bit_low (bit i c) (through places c) (bit_small i c)
through_bit (i ∷ places) (suc j) c h = bit_high j (bit i c) (through places c) (bit_small i c) ∙ through_bit places j c (omega arith)

pub through_columns : (places : List ℕ) (w : List ℕ) → Columns (length places) (map (through places) w)
through_columns places [] = tt
through_columns places (c ∷ w) = (through_below places c, through_columns places w)

pub through_coded : (places : List ℕ) (j : ℕ) (w : List ℕ) → j < length places → coded j (map (through places) w) ≡ coded (get_or places j 0) w
through_coded places j [] h = refl
through_coded places j (c ∷ w) h = ap₂ (λ b s. b + 2 * s) (through_bit places j c h) (through_coded places j w h)

-- the sets that the place columns code are the listed sets
pub through_sets : (places : List ℕ) (w : List ℕ) → sets (length places) (map (through places) w) ≡ map (λ i. coded i w) places
through_sets places w =
    let k : ℕ = length places in
    let read = map (through places) w in
    ext_get_or 0 (sets k read) (map (λ i. coded i w) places)
    (length-map-range_with_len (λ j. coded j read) 0 k ∙ sym (length-map places (λ i. coded i w)))
    (λ j h.
    let within : j < k = subst (λ x. j < x) (length-map-range_with_len (λ i. coded i read) 0 k) h in
    get_or-map-range_with_len (λ i. coded i read) 0 k j j 0 within (omega arith)
    ∙ through_coded places j w within ∙ sym (get_or-map (λ i. coded i w) places j 0 0 within))

-- a run over the columns read through is the run over the place columns
pub through_run : {S : Type 0} (step : S → ℕ → S) (places : List ℕ) (s : S) (w : List ℕ) → run (λ x c. step x (through places c)) s w ≡ run step s (map (through places) w)
through_run step places s [] = refl
through_run step places s (c ∷ w) = through_run step places (step s (through places c)) w
