-- The numbers in a line, gathered byte by byte.
use Rattle.std.proofs.Common.{◌≡◌, ℕ, ◌+◌, ◌-◌, ◌*◌, ◌/◌, ◌%◌, ◌<◌, ◌≤◌, cond, true, false, List, [], ◌∷◌, ◌++◌, map, length, take, drop, set, min, decimal, All, refl, ap, ◌∙◌, arith, tests, lit≤, length-set, length-append}
use Rattle.std.specs.Char.{is_ascii_digit}
use Rattle.std.specs.List.{fold}
use Rattle.std.proofs.lemmas.Fmt.{decimal_by_steps, length-decimal-le}
use Rattle.std.proofs.lemmas.Grind.{common_steps}
use Rattle.std.proofs.lemmas.List.{take-append-drop, take-set, drop-set}
use Rattle.std.proofs.lemmas.List.Elements.{All-head, All-tail}
use Rattle.std.proofs.lemmas.List.Sums.{fold-append}
use Rattle.saving.specs.TableText.{line_of}

-- the numbers so far, how many they are, and the number at hand
abbrev pub Gathered : Type 0
Gathered = List ℕ × ℕ × ℕ

-- a digit goes on with the number at hand, which stops at 65,535; any other byte ends it
abbrev pub with_byte : Gathered → ℕ → Gathered
with_byte g byte = cond (is_ascii_digit byte) (g.0, g.1, min (min (g.2 * 10) 65535 + (byte - 48)) 65535) (set g.0 g.1 g.2, g.1 + 1, 0)

abbrev pub gathered : Gathered → List ℕ → Gathered
gathered = fold with_byte

-- ---- one number

digit_more : (cells : List ℕ) (k n d : ℕ) → d < 10 → with_byte (cells, k, n) (48 + d) ≡ (cells, k, min (min (n * 10) 65535 + d) 65535)
digit_more cells k n d low =
    let digit : is_ascii_digit (48 + d) ≡ true = grind (arith, tests) in
    ap (λ b. cond b (cells, k, min (min (n * 10) 65535 + (48 + d - 48)) 65535) (set cells k n, k + 1, 0)) digit
    ∙ ap (λ (v : ℕ). (cells, k, v)) (omega arith)

pub number_gathered : (cells : List ℕ) (k n : ℕ) → n ≤ 65535 → gathered (cells, k, 0) (decimal n) ≡ (cells, k, n)
number_gathered cells k n low = decimal_by_steps (λ m ds. m ≤ 65535 → gathered (cells, k, 0) ds ≡ (cells, k, m)) one more n (omega (arith, low)) low
  where
    one : (m : ℕ) → m < 10 → m ≤ 65535 → gathered (cells, k, 0) ((48 + m) ∷ []) ≡ (cells, k, m)
    one m digit small = digit_more cells k 0 m digit ∙ ap (λ (v : ℕ). (cells, k, v)) (omega (arith, digit))

    more : (m : ℕ) (ds : List ℕ) → 10 ≤ m → (m / 10 ≤ 65535 → gathered (cells, k, 0) ds ≡ (cells, k, m / 10)) → m ≤ 65535
        → gathered (cells, k, 0) (ds ++ ((48 + m % 10) ∷ [])) ≡ (cells, k, m)
    more m ds long before small =
        fold-append with_byte (cells, k, 0) ds ((48 + m % 10) ∷ [])
        ∙ ap (λ g. with_byte g (48 + m % 10)) (before (omega (arith, small)))
        ∙ digit_more cells k (m / 10) (m % 10) (omega arith)
        ∙ ap (λ (v : ℕ). (cells, k, v)) (omega (arith, small))

-- the number ends at any other byte
value_gathered : (cells : List ℕ) (k v : ℕ) → v ≤ 65535 → (end : ℕ) (rest : List ℕ) → is_ascii_digit end ≡ false
    → gathered (cells, k, 0) (decimal v ++ (end ∷ rest)) ≡ gathered (set cells k v, k + 1, 0) rest
value_gathered cells k v low end rest ends =
    fold-append with_byte (cells, k, 0) (decimal v) (end ∷ rest)
    ∙ ap (λ g. gathered g (end ∷ rest)) (number_gathered cells k v low)
    ∙ ap (λ b. gathered (cond b (cells, k, min (min (v * 10) 65535 + (end - 48)) 65535) (set cells k v, k + 1, 0)) rest) ends

-- ---- a line of numbers

pub line_last : (v : List ℕ) → line_of (v ∷ []) ≡ v ++ (10 ∷ [])
line_last v = grind (arith, common_steps)

pub line_more : (v w : List ℕ) (ws : List (List ℕ)) → line_of (v ∷ (w ∷ ws)) ≡ v ++ (32 ∷ line_of (w ∷ ws))
line_more v w ws = grind (arith, common_steps)

set_parts : (cells : List ℕ) (k v : ℕ) → k < length cells → set cells k v ≡ take k cells ++ (v ∷ drop (k + 1) cells)
set_parts cells k v low = cc (take-append-drop k (set cells k v), take-set cells k v, drop-set cells k v low)

-- gathered from the k-th place on
line_gathered : (v : ℕ) (vs : List ℕ) (cells : List ℕ) (k : ℕ) → All (λ x. x ≤ 65535) (v ∷ vs) → k + length (v ∷ vs) ≤ length cells
    → (gathered (cells, k, 0) (line_of (map decimal (v ∷ vs)))).0 ≡ take k cells ++ ((v ∷ vs) ++ drop (k + length (v ∷ vs)) cells)
line_gathered v [] cells k small room =
    let low = All-head (λ x. x ≤ 65535) v [] small in
    let read = value_gathered cells k v low 10 [] refl in
    rw (line_last (decimal v), read) (set_parts cells k v (omega (arith, room)))
line_gathered v (w ∷ ws) cells k small room =
    let low = All-head (λ x. x ≤ 65535) v (w ∷ ws) small in
    let read = value_gathered cells k v low 32 (line_of (map decimal (w ∷ ws))) refl in
    let later = line_gathered w ws (set cells k v) (k + 1) (All-tail (λ x. x ≤ 65535) v (w ∷ ws) small) (omega (arith, room, length-set cells k v)) in
    rw (line_more (decimal v) (decimal w) (map decimal ws), read, later) (grind (arith, common_steps))

-- gathered from the front of zeros, or of other numbers
pub front_gathered : (vs : List ℕ) (cells : List ℕ) → All (λ x. x ≤ 65535) vs → length vs ≤ length cells
    → take (length vs) (gathered (cells, 0, 0) (line_of (map decimal vs))).0 ≡ vs
front_gathered [] cells small room = refl
front_gathered (v ∷ vs) cells small room = rw (line_gathered v vs cells 0 small (omega (arith, room))) (grind (arith, common_steps))

-- how long a line of numbers is
line_long : (v : ℕ) (vs : List ℕ) → All (λ x. x ≤ 65535) (v ∷ vs) → length (line_of (map decimal (v ∷ vs))) ≤ 6 * length (v ∷ vs)
line_long v [] small =
    let low = All-head (λ x. x ≤ 65535) v [] small in
    rw (line_last (decimal v)) (omega (arith, length-append (decimal v) (10 ∷ []), length-decimal-le 5 v (omega arith) (omega (arith, low)) (omega (arith, low))))
line_long v (w ∷ ws) small =
    let low = All-head (λ x. x ≤ 65535) v (w ∷ ws) small in
    let later = line_long w ws (All-tail (λ x. x ≤ 65535) v (w ∷ ws) small) in
    rw (line_more (decimal v) (decimal w) (map decimal ws))
    (omega (arith, later, length-append (decimal v) (32 ∷ line_of (map decimal (w ∷ ws))), length-decimal-le 5 v (omega arith) (omega (arith, low)) (omega (arith, low))))

pub line_short : (vs : List ℕ) → All (λ x. x ≤ 65535) vs → length vs ≤ 18 → length (line_of (map decimal vs)) ≤ 108
line_short [] small few = lit≤ tt
line_short (v ∷ vs) small few = omega (arith, few, line_long v vs small)
