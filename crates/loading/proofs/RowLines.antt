-- The row in a line, from the numbers gathered in it.
use Rattle.std.proofs.Common.{◌≡◌, ℕ, suc, ◌+◌, ◌^◌, ◌≤◌, List, [], ◌∷◌, ◌++◌, map, length, get_or, take, drop, decimal, All, sym, ap, ◌∙◌, arith, pow_mono, length-drop, length-take}
use Rattle.std.proofs.lemmas.List.Elements.{All-cons, All-drop, All-take}
use Rattle.words.specs.Rows.{width}
use Rattle.saving.specs.TableText.{line_of}
use Rattle.loading.specs.Lines.{IsRow}

-- a state, its mark and n next states
abbrev listed : List ℕ → ℕ → List ℕ
listed values n = get_or values 0 0 ∷ (get_or values 1 0 ∷ take n (drop 2 values))

front_listed : (values : List ℕ) (n : ℕ) → 2 ≤ length values → take (n + 2) values ≡ listed values n
front_listed [] n two = absurd (omega arith)
front_listed (s ∷ []) n two = absurd (omega arith)
front_listed (s ∷ (mark ∷ rest)) n two = let next : n + 2 ≡ suc (suc n) = omega arith in ap (λ j. take j (s ∷ (mark ∷ rest))) next

module _ (k s n : ℕ) (all : n ≡ 2 ^ k) (line values : List ℕ) (long : length values ≡ 18) where
  pub row_found : k ≤ 4 → All (λ v. v ≤ 65535) values → (row : List ℕ) → get_or values 0 0 ≡ s → get_or values 1 0 ≤ 1
      → line ≡ line_of (map decimal (take (n + 2) values)) → take (n + 1) row ≡ take n (drop 2 values) ++ (get_or values 1 0 ∷ [])
      → IsRow k s line (take (width k) row)
  row_found few small row state mark same laid =
      let nexts = take n (drop 2 values) in
      let room : 2 ^ k ≤ 16 = pow_mono few in
      let many : length nexts ≡ 2 ^ k = omega (arith, length-take n (drop 2 values), length-drop 2 values, all, room, long) in (
        nexts,
        get_or values 1 0,
        many,
        All-take (λ v. v ≤ 65535) n (drop 2 values) (All-drop (λ v. v ≤ 65535) 2 values small),
        mark,
        same ∙ ap (λ l. line_of (map decimal l)) (front_listed values n (omega (arith, long))) ∙ ap (λ x. line_of (map decimal (x ∷ (get_or values 1 0 ∷ nexts)))) state,
        ap (λ j. take (j + 1) row) (sym all) ∙ laid,
      )

  pub row_gathered : k ≤ 4 → s ≤ 65535 → ((vs : List ℕ) → length vs ≤ 18 → All (λ v. v ≤ 65535) vs → line ≡ line_of (map decimal vs) → take (length vs) values ≡ vs)
      → (cells : List ℕ) → IsRow k s line cells
      → (get_or values 0 0 ≡ s) × (get_or values 1 0 ≤ 1) × (line ≡ line_of (map decimal (take (n + 2) values)))
  row_gathered few low gathers cells (nexts, mark, many, small, bit, same, laid) =
      let vs : List ℕ = s ∷ (mark ∷ nexts) in
      let room : 2 ^ k ≤ 16 = pow_mono few in
      let each = All-cons (λ v. v ≤ 65535) s (mark ∷ nexts) low (All-cons (λ v. v ≤ 65535) mark nexts (omega (arith, bit)) small) in
      let read : take (length vs) values ≡ vs = gathers vs (omega (arith, many, room)) each same in
      let count : n + 2 ≡ length vs = omega (arith, many, all) in
      let front : take (n + 2) values ≡ vs = ap (λ j. take j values) count ∙ read in
      let is : listed values n ≡ vs = sym (front_listed values n (omega (arith, long))) ∙ front in
      let first : get_or values 0 0 ≡ s = cc in
      let second : get_or values 1 0 ≡ mark = cc in
      (first, omega (arith, second, bit), same ∙ ap (λ l. line_of (map decimal l)) (sym front))
