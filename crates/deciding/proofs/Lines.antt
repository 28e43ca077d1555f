-- Lines put together from values.
use Rattle.std.proofs.Common.{◌≡◌, ℕ, zero, suc, ◌+◌, ◌*◌, ◌<◌, ◌≤◌, codes, decimal, get_or, subst, Some, List, [], ◌∷◌, ◌++◌, take, length, min, ◌↔◌, Ok, Err, Result, IsOk, OnOk, refl, sym, ap, ◌∙◌, arith, lit≤, length-append}
use Rattle.std.specs.List.{flat_map}
use Rattle.std.proofs.lemmas.List.{append_assoc, append-nil, take_all, take_min, take_more, length-take}
use Rattle.std.proofs.lemmas.Grind.{flat_map-append}
use Rattle.std.proofs.Math.Seq.{take-append-add}
use Rattle.std.proofs.lemmas.Bool.{false≢true}
use Rattle.saving.specs.TableText.{spaced, line_of}
use Rattle.judging.specs.declared.verdict.Verdict.{Verdict}
use Rattle.judging.specs.declared.verdict.Verdict.TheVariants.{NoSets, SomeSets, AllSets}
use Rattle.deciding.specs.Printed.{verdict_name, word_text, Puts}

-- values behind the first, each with a space before it
abbrev behind : List (List ℕ) → List ℕ
behind values = flat_map (λ v. 32 ∷ v) values

-- what was written so far, and values behind it one after another
abbrev pub laid : List ℕ → List (List ℕ) → List ℕ
laid out [] = out
laid out (v ∷ vs) = laid ((out ++ (32 ∷ [])) ++ v) vs

laid_is : (out : List ℕ) (vs : List (List ℕ)) → laid out vs ≡ out ++ behind vs
laid_is out [] = sym (append-nil out)
laid_is out (v ∷ vs) =
    laid_is ((out ++ (32 ∷ [])) ++ v) vs ∙ ap (λ xs. xs ++ behind vs) (append_assoc out (32 ∷ []) v) ∙ append_assoc out (32 ∷ v) (behind vs)

-- a line of names, and then the values of a line
pub two_lines_laid : (out names v : List ℕ) (vs : List (List ℕ)) → laid ((out ++ names) ++ v) vs ++ (10 ∷ []) ≡ out ++ (names ++ line_of (v ∷ vs))
two_lines_laid out names v vs =
    ap (λ xs. xs ++ (10 ∷ [])) (laid_is ((out ++ names) ++ v) vs ∙ append_assoc (out ++ names) v (behind vs) ∙ append_assoc out names (spaced (v ∷ vs)))
    ∙ append_assoc out (names ++ spaced (v ∷ vs)) (10 ∷ []) ∙ ap (λ xs. out ++ xs) (append_assoc names (spaced (v ∷ vs)) (10 ∷ []))

-- ---- pieces in memory of 4,153 bytes

-- what is cut off makes no difference to what stands before it
cut_before : (n : ℕ) (xs ys : List ℕ) → take n (take n xs ++ ys) ≡ take n (xs ++ ys)
cut_before zero xs ys = refl
cut_before (suc n) [] ys = refl
cut_before (suc n) (x ∷ xs) ys = ap (λ l. x ∷ l) (cut_before n xs ys)

-- as much of a piece as there is room for
pub put_cut : {E : Type 0} (old piece new : List ℕ) (room k : ℕ) (r : Result (Unit {0}) E) → room + length old ≡ 4153 → k ≡ min room (length piece)
    → IsOk r ↔ (length old + length (take k piece) ≤ 4153) → OnOk r (new ≡ old ++ take k piece) → Puts (length piece) piece old new
put_cut old piece new room k (Ok x) is least fits added =
    let all : length old + room ≡ 4153 = omega (arith, is) in
    let most : new ≡ old ++ take room piece = added ∙ ap (λ n. old ++ take n piece) least ∙ ap (λ xs. old ++ xs) (take_min room piece) in
    record {
      laid = most ∙ sym (take-append-add old piece room) ∙ ap (λ n. take n (old ++ piece)) all;
      short = omega arith;
    }
put_cut old piece new room k (Err e) is least fits added =
    absurd (false≢true (fits.1 (omega (arith, is, least, length-take k piece))))

-- one piece behind another
pub both : {j k : ℕ} {p q old mid new : List ℕ} → Puts j p old mid → Puts k q mid new → Puts (j + k) (p ++ q) old new
both {j} {k} {p} {q} {old} {mid} {new} a b = record {
  laid = b.laid ∙ ap (λ xs. take 4153 (xs ++ q)) a.laid ∙ cut_before 4153 (old ++ p) q ∙ ap (take 4153) (append_assoc old p q);
  short = omega (arith, a.short, b.short, length-append p q);
}

pub within : {j k : ℕ} {piece old new : List ℕ} → Puts j piece old new → j ≤ k → Puts k piece old new
within a few = record { laid = a.laid; short = omega (arith, a.short, few) }

verdict_short : (v : Verdict) → length (verdict_name v) ≤ 4
verdict_short NoSets = lit≤ tt
verdict_short SomeSets = lit≤ tt
verdict_short AllSets = lit≤ tt

pub verdict_put : (v : Verdict) (name old new : List ℕ) → name ≡ verdict_name v → Puts (length name) name old new → Puts 4 (verdict_name v) old new
verdict_put v name old new is p =
    within (subst (λ n. Puts (length n) n old new) is p) (verdict_short v)

-- lines that were put into empty memory stand there whole
pub whole : {piece old new : List ℕ} → Puts 4153 piece old new → old ≡ [] → new ≡ piece
whole {piece} p none = p.laid ∙ ap (λ xs. take 4153 (xs ++ piece)) none ∙ take_all 4153 piece p.short

-- nothing is put behind what was put
pub nothing_put : {k : ℕ} {piece old new : List ℕ} → Puts k piece old new → Puts 0 [] new new
nothing_put {k} {piece} {old} {new} a = record {
  laid = a.laid ∙ ap (take 4153) (sym (append-nil (old ++ piece))) ∙ sym (cut_before 4153 (old ++ piece) []) ∙ ap (λ xs. take 4153 (xs ++ [])) (sym a.laid);
  short = lit≤ tt;
}

-- ---- the columns of a word

abbrev pub column_behind : ℕ → List ℕ
column_behind d = codes "," ++ decimal d

-- one column more
pub next_column : (rest old mid new : List ℕ) (i : ℕ) → i < length rest → Puts (4 * i) (flat_map column_behind (take i rest)) old mid
    → Puts 4 (column_behind (get_or rest i 0)) mid new → Puts (4 * (i + 1)) (flat_map column_behind (take (i + 1) rest)) old new
next_column rest old mid new i more before next =
    let piece : flat_map column_behind (take (i + 1) rest) ≡ flat_map column_behind (take i rest) ++ column_behind (get_or rest i 0) =
    ap (flat_map column_behind) (take_more rest i 0 more) ∙ flat_map-append column_behind (take i rest) (get_or rest i 0 ∷ [])
    ∙ ap (λ xs. flat_map column_behind (take i rest) ++ xs) (append-nil (column_behind (get_or rest i 0))) in
    subst (λ p. Puts (4 * (i + 1)) p old new) (sym piece) (within (both before next) (omega arith))

-- the first column and those behind it are the word
pub all_columns : (columns rest old mid new : List ℕ) (first i : ℕ) → columns ≡ first ∷ rest → length columns ≤ 512 → length rest ≤ i → i ≤ length rest
    → Puts 3 (decimal first) old mid → Puts (4 * i) (flat_map column_behind (take i rest)) mid new → Puts 2047 (word_text (Some columns)) old new
all_columns columns rest old mid new first i is few all most before behind =
    let piece : word_text (Some columns) ≡ decimal first ++ flat_map column_behind (take i rest) =
    ap (λ w. word_text (Some w)) is ∙ ap (λ w. decimal first ++ flat_map column_behind w) (sym (take_all i rest all)) in
    subst (λ p. Puts 2047 p old new) (sym piece) (within (both before behind) (omega (arith, ap length is, few, most)))
