-- What is printed in a table is lines: its numbers have digits alone, and names, spaces and digits lie above byte 10.
use Rattle.std.proofs.Common.{◌≡◌, ℕ, zero, suc, ◌+◌, ◌/◌, ◌%◌, ◌^◌, ◌<◌, true, false, eqb, ltb, List, [], ◌∷◌, ◌++◌, map, codes, decimal, All, subst, sym, refl, arith, lit≤}
use Rattle.std.specs.List.{flat_map, list_all}
use Rattle.std.specs.Fmt.{digits, digits_onto, digit_glyph}
use Rattle.std.proofs.lemmas.Bool.{cond_both, ltb-true, and_parts}
use Rattle.std.proofs.lemmas.List.Elements.{All-nil, All-cons, All-append, All-weaker}
use Rattle.words.specs.Automata.{Automaton}
use Rattle.saving.specs.Laying.{names_of}
use Rattle.saving.specs.TableText.{spaced, numbers, names_line, row_line, row_values}
use Rattle.saving.proofs.Lines.{names_line_is}
use Rattle.loading.proofs.LinesApart.{IsLine, line_from}

-- ---- the digits of a number

glyph_high : (n : ℕ) → 47 < digit_glyph false (n % 10)
glyph_high n = cond_both (ltb (n % 10) 10) (48 + n % 10) (87 + n % 10) (λ b. 47 < b) (λ e. omega arith) (λ e. omega arith)

onto_high : (k n : ℕ) (after : List ℕ) → All (λ b. 47 < b) after → All (λ b. 47 < b) (digits_onto k 10 false n after)
onto_high zero n after high = high
onto_high (suc k) n after high =
    let d : ℕ = digit_glyph false (n % 10) in
    let more = All-cons (λ b. 47 < b) d after (glyph_high n) high in
    cond_both (eqb (n / 10) 0) (d ∷ after) (digits_onto k 10 false (n / 10) (d ∷ after)) (All (λ b. 47 < b))
    (λ e. more) (λ e. onto_high k (n / 10) (d ∷ after) more)

pub decimal_high : (n : ℕ) → All (λ b. 47 < b) (decimal n)
unfolding digits
decimal_high n = onto_high 64 n [] (All-nil (λ b. 47 < b))

above : (n : ℕ) → All (λ b. 10 < b) (decimal n)
above n = All-weaker (λ b. 47 < b) (λ b. 10 < b) (λ b h. omega (arith, h)) (decimal n) (decimal_high n)

-- ---- the lines

joined_above : (f : ℕ → List ℕ) → ((x : ℕ) → All (λ b. 10 < b) (f x)) → (xs : List ℕ) → All (λ b. 10 < b) (flat_map f xs)
joined_above f each [] = All-nil (λ b. 10 < b)
joined_above f each (x ∷ xs) = All-append (λ b. 10 < b) (f x) (flat_map f xs) (each x) (joined_above f each xs)

pub tested_above : (bs : List ℕ) → list_all (λ b. ltb 10 b) bs ≡ true → All (λ b. 10 < b) bs
tested_above [] all = All-nil (λ b. 10 < b)
tested_above (b ∷ bs) all =
    let both = and_parts (ltb 10 b) (list_all (λ x. ltb 10 x) bs) all in
    All-cons (λ x. 10 < x) b bs (ltb-true 10 b both.0) (tested_above bs both.1)

name_above : (c : ℕ) → All (λ b. 10 < b) (codes " n" ++ decimal c)
name_above c = All-append (λ b. 10 < b) (codes " n") (decimal c) (tested_above (codes " n") refl) (above c)

pub names_are_line : (n : ℕ) → IsLine (names_line n)
names_are_line n =
    let words : List ℕ = codes "state accepts" in
    let names = joined_above (λ c. codes " n" ++ decimal c) name_above (numbers (2 ^ n)) in
    subst IsLine (sym (names_line_is n))
    (line_from (words ++ names_of (2 ^ n)) (All-append (λ b. 10 < b) words (names_of (2 ^ n)) (tested_above words refl) names))

-- the numbers that follow the first, each with a space before it
following_above : (vs : List ℕ) → All (λ b. 10 < b) (flat_map (λ u. codes " " ++ u) (map decimal vs))
following_above [] = All-nil (λ b. 10 < b)
following_above (v ∷ vs) =
    let more = flat_map (λ u. codes " " ++ u) (map decimal vs) in
    All-append (λ b. 10 < b) (32 ∷ decimal v) more (All-cons (λ b. 10 < b) 32 (decimal v) (lit≤ tt) (above v)) (following_above vs)

pub numbers_above : (vs : List ℕ) → All (λ b. 10 < b) (spaced (map decimal vs))
numbers_above [] = All-nil (λ b. 10 < b)
numbers_above (v ∷ vs) = All-append (λ b. 10 < b) (decimal v) (flat_map (λ u. codes " " ++ u) (map decimal vs)) (above v) (following_above vs)

pub row_is_line : (a : Automaton) (s : ℕ) → IsLine (row_line a s)
unfolding row_line
row_is_line a s = line_from (spaced (map decimal (row_values a s))) (numbers_above (row_values a s))
