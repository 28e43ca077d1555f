-- A line of numbers determines its numbers.
use Rattle.std.proofs.Common.{◌≡◌, ℕ, ◌^◌, ◌<◌, ◌≤◌, List, [], ◌∷◌, ◌++◌, map, get_or, drop, decimal, All, sym, ap, ◌∙◌, ap₂, refl, arith, lit≤}
use Rattle.std.proofs.lemmas.Fmt.{decimal_injective}
use Rattle.std.proofs.lemmas.List.Elements.{All-head, All-tail}
use Rattle.saving.specs.TableText.{line_of}
use Rattle.loading.proofs.Values.{line_last, line_more}
use Rattle.loading.proofs.Printed.{decimal_high}

-- ---- bytes above 47, and then one that is not: where two such texts are equal, each part is

cons_same : (b c : ℕ) (bs cs : List ℕ) → b ∷ bs ≡ c ∷ cs → (b ≡ c) × (bs ≡ cs)
cons_same b c bs cs same = (ap (λ l. get_or l 0 0) same, ap (λ l. drop 1 l) same)

module _ (x y : ℕ) (xs ys : List ℕ) (low : x ≤ 47) (low' : y ≤ 47) where
  same_parts : (d e : List ℕ) → All (λ b. 47 < b) d → All (λ b. 47 < b) e → d ++ (x ∷ xs) ≡ e ++ (y ∷ ys) → (d ≡ e) × (x ≡ y) × (xs ≡ ys)
  same_parts [] [] hd he same = let parts = cons_same x y xs ys same in (refl, parts.0, parts.1)
  same_parts [] (c ∷ e) hd he same = absurd (omega (arith, low, All-head (λ b. 47 < b) c e he, (cons_same x c xs (e ++ (y ∷ ys)) same).0))
  same_parts (b ∷ d) [] hd he same = absurd (omega (arith, low', All-head (λ b. 47 < b) b d hd, (cons_same b y (d ++ (x ∷ xs)) ys same).0))
  same_parts (b ∷ d) (c ∷ e) hd he same =
      let parts = cons_same b c (d ++ (x ∷ xs)) (e ++ (y ∷ ys)) same in
      let rest = same_parts d e (All-tail (λ b. 47 < b) b d hd) (All-tail (λ b. 47 < b) c e he) parts.1 in
      (ap₂ (λ h t. h ∷ t) parts.0 rest.0, rest.1, rest.2)

-- ---- number by number

same_number : (v w x y : ℕ) (xs ys : List ℕ) → v < 2 ^ 64 → w < 2 ^ 64 → x ≤ 47 → y ≤ 47
    → decimal v ++ (x ∷ xs) ≡ decimal w ++ (y ∷ ys) → (v ≡ w) × (x ≡ y) × (xs ≡ ys)
same_number v w x y xs ys hv hw low low' same =
    let parts = same_parts x y xs ys low low' (decimal v) (decimal w) (decimal_high v) (decimal_high w) same in
    (decimal_injective v w hv hw parts.0, parts.1, parts.2)

head : (v : ℕ) (vs : List ℕ) → All (λ x. x < 2 ^ 64) (v ∷ vs) → v < 2 ^ 64
head = All-head (λ x. x < 2 ^ 64)

pub same_values : (v w : ℕ) (vs ws : List ℕ) → All (λ x. x < 2 ^ 64) (v ∷ vs) → All (λ x. x < 2 ^ 64) (w ∷ ws)
    → line_of (map decimal (v ∷ vs)) ≡ line_of (map decimal (w ∷ ws)) → v ∷ vs ≡ w ∷ ws
same_values v w [] [] hv hw same =
    let lines = sym (line_last (decimal v)) ∙ same ∙ line_last (decimal w) in
    ap (λ n. n ∷ []) (same_number v w 10 10 [] [] (head v [] hv) (head w [] hw) (lit≤ tt) (lit≤ tt) lines).0
same_values v w [] (y ∷ ys) hv hw same =
    let more = line_of (map decimal (y ∷ ys)) in
    let lines = sym (line_last (decimal v)) ∙ same ∙ line_more (decimal w) (decimal y) (map decimal ys) in
    absurd (omega (arith, (same_number v w 10 32 [] more (head v [] hv) (head w (y ∷ ys) hw) (lit≤ tt) (lit≤ tt) lines).1))
same_values v w (x ∷ xs) [] hv hw same =
    let more = line_of (map decimal (x ∷ xs)) in
    let lines = sym (line_more (decimal v) (decimal x) (map decimal xs)) ∙ same ∙ line_last (decimal w) in
    absurd (omega (arith, (same_number v w 32 10 more [] (head v (x ∷ xs) hv) (head w [] hw) (lit≤ tt) (lit≤ tt) lines).1))
same_values v w (x ∷ xs) (y ∷ ys) hv hw same =
    let lines = sym (line_more (decimal v) (decimal x) (map decimal xs)) ∙ same ∙ line_more (decimal w) (decimal y) (map decimal ys) in
    let vs = line_of (map decimal (x ∷ xs)) in
    let ws = line_of (map decimal (y ∷ ys)) in
    let parts = same_number v w 32 32 vs ws (head v (x ∷ xs) hv) (head w (y ∷ ys) hw) (lit≤ tt) (lit≤ tt) lines in
    let small = All-tail (λ n. n < 2 ^ 64) v (x ∷ xs) hv in
    let small' = All-tail (λ n. n < 2 ^ 64) w (y ∷ ys) hw in
    ap₂ (λ h t. h ∷ t) parts.0 (same_values x y xs ys small small' parts.2)
