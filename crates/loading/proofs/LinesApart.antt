-- A text cut into its lines. A line ends in byte 10, and has no other.
use Rattle.std.proofs.Common.{◌≡◌, ◌≢◌, ℕ, ◌<◌, cond, List, [], ◌∷◌, ◌++◌, map, length, All, sym, refl, ap, ◌∙◌, ap₂, arith, length-append, append_assoc}
use Rattle.std.specs.List.{flat_map}
use Rattle.std.proofs.lemmas.Bool.{ne_eqb}
use Rattle.std.proofs.lemmas.List.Elements.{All-head, All-tail, All-weaker}
use Rattle.loading.specs.Cutting.{cut}

-- a byte more in front of the first part
abbrev and_before : ℕ → List ℕ × List ℕ → List ℕ × List ℕ
and_before b parts = (b ∷ parts.0, parts.1)

-- bytes other than 10, and then a byte 10
abbrev pub IsLine : List ℕ → Type 0
IsLine line = (front : List ℕ) × All (λ b. b ≢ 10) front × (line ≡ front ++ (10 ∷ []))

-- ---- a line in front is what is cut off

cut_front : (front rest : List ℕ) → All (λ b. b ≢ 10) front → cut (front ++ (10 ∷ rest)) ≡ (front ++ (10 ∷ []), rest)
cut_front [] rest others = refl
cut_front (b ∷ front) rest others =
    let later = front ++ (10 ∷ rest) in
    ap (λ test. cond test (b ∷ [], later) (and_before b (cut later))) (ne_eqb b 10 (All-head (λ x. x ≢ 10) b front others))
    ∙ ap (and_before b) (cut_front front rest (All-tail (λ x. x ≢ 10) b front others))

pub cut_line : (line rest : List ℕ) → IsLine line → cut (line ++ rest) ≡ (line, rest)
cut_line line rest (front, others, is) =
    ap (λ l. cut (l ++ rest)) is ∙ ap cut (append_assoc front (10 ∷ []) rest) ∙ cut_front front rest others ∙ ap (λ l. (l, rest)) (sym is)

-- so two texts that begin with a line are equal only if their lines and their rests are
pub same_first : (line line' rest rest' : List ℕ) → IsLine line → IsLine line' → line ++ rest ≡ line' ++ rest' → (line ≡ line') × (rest ≡ rest')
same_first line line' rest rest' is is' same =
    let cuts : (line, rest) ≡ (line', rest') = sym (cut_line line rest is) ∙ ap cut same ∙ cut_line line' rest' is' in
    (ap (λ p. p.0) cuts, ap (λ p. p.1) cuts)

-- ---- a text of lines determines them

pub line_from : (front : List ℕ) → All (λ b. 10 < b) front → IsLine (front ++ (10 ∷ []))
line_from front above = (front, All-weaker (λ b. 10 < b) (λ b. b ≢ 10) (λ b h e. omega (arith, h, e)) front above, refl)

no_line : (line rest : List ℕ) → IsLine line → [] ≡ line ++ rest → ⊥
no_line line rest (front, others, is) none =
    omega (arith, ap length none, length-append line rest, ap length is, length-append front (10 ∷ []))

module _ (f g : ℕ → List ℕ) (fs : (x : ℕ) → IsLine (f x)) (gs : (x : ℕ) → IsLine (g x)) where
  pub same_lines : (xs ys : List ℕ) → flat_map f xs ≡ flat_map g ys → map f xs ≡ map g ys
  same_lines [] [] same = refl
  same_lines [] (y ∷ ys) same = absurd (no_line (g y) (flat_map g ys) (gs y) same)
  same_lines (x ∷ xs) [] same = absurd (no_line (f x) (flat_map f xs) (fs x) (sym same))
  same_lines (x ∷ xs) (y ∷ ys) same =
      let both = same_first (f x) (g y) (flat_map f xs) (flat_map g ys) (fs x) (gs y) same in
      ap₂ (λ l ls. l ∷ ls) both.0 (same_lines xs ys both.1)
