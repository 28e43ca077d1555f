-- The lines of a table, as their parts are laid.
use Rattle.std.proofs.Common.{◌≡◌, ℕ, ◌+◌, ◌^◌, ◌<◌, ◌≤◌, cond, List, [], ◌∷◌, ◌++◌, map, length, get_or, take, codes, decimal, refl, ap, ◌∙◌, arith, length-take}
use Rattle.std.specs.List.{flat_map}
use Rattle.std.proofs.lemmas.Grind.{common_steps}
use Rattle.std.proofs.lemmas.List.{take_more, map-append, length-map}
use Rattle.words.specs.Automata.{Automaton}
use Rattle.words.specs.Rows.{written}
use Rattle.saving.specs.Laying.{names_of, nexts_of}
use Rattle.saving.specs.TableText.{spaced, numbers, column_name, names_line, row_line, table_text}

joined_map : (g : List ℕ → List ℕ) (f : ℕ → List ℕ) (xs : List ℕ) → flat_map g (map f xs) ≡ flat_map (λ x. g (f x)) xs
joined_map g f [] = refl
joined_map g f (x ∷ xs) = ap (λ l. g (f x) ++ l) (joined_map g f xs)

-- one value more: a space stands before it, if it is not the first
spaced_first : (vs : List (List ℕ)) (u : List ℕ) → length vs ≤ 0 → spaced (vs ++ (u ∷ [])) ≡ spaced vs ++ u
spaced_first [] u none = grind (arith, common_steps)
spaced_first (v ∷ vs) u none = absurd (omega arith)

spaced_more : (vs : List (List ℕ)) (u : List ℕ) → 0 < length vs → spaced (vs ++ (u ∷ [])) ≡ (spaced vs ++ (32 ∷ [])) ++ u
spaced_more [] u some = absurd (omega arith)
spaced_more (v ∷ vs) u some = grind (arith, common_steps)

module _ (xs : List ℕ) (k : ℕ) (low : k < length xs) where
  front_more : map decimal (take (k + 1) xs) ≡ map decimal (take k xs) ++ (decimal (get_or xs k 0) ∷ [])
  front_more = ap (map decimal) (take_more xs k 0 low) ∙ map-append decimal (take k xs) (get_or xs k 0 ∷ [])

  front_long : length (map decimal (take k xs)) ≡ k
  front_long = simp (length-map, length-take) (omega arith)

  pub numbers_first : k ≤ 0 → spaced (map decimal (take (k + 1) xs)) ≡ spaced (map decimal (take k xs)) ++ decimal (get_or xs k 0)
  numbers_first none = ap spaced front_more ∙ spaced_first (map decimal (take k xs)) (decimal (get_or xs k 0)) (omega (arith, front_long))

  pub numbers_more : 0 < k → spaced (map decimal (take (k + 1) xs)) ≡ (spaced (map decimal (take k xs)) ++ (32 ∷ [])) ++ decimal (get_or xs k 0)
  numbers_more some = ap spaced front_more ∙ spaced_more (map decimal (take k xs)) (decimal (get_or xs k 0)) (omega (arith, front_long))

-- the line of names: the two words, the names of the columns and the end
pub names_line_is : (n : ℕ) → names_line n ≡ (codes "state accepts" ++ names_of (2 ^ n)) ++ (10 ∷ [])
unfolding names_line
names_line_is n = ap (λ l. (codes "state accepts" ++ l) ++ (10 ∷ [])) (joined_map (λ u. codes " " ++ u) column_name (numbers (2 ^ n)))

-- the line of a state: its number, a space, the mark, the next states and the end
module _ (a : Automaton) (s : ℕ) where
  nexts_are : (xs : List ℕ) → flat_map (λ c. codes " " ++ decimal (a.step s c)) xs ≡ flat_map (λ u. codes " " ++ u) (map decimal (map (a.step s) xs))
  nexts_are [] = refl
  nexts_are (c ∷ cs) = ap (λ l. (codes " " ++ decimal (a.step s c)) ++ l) (nexts_are cs)

  pub row_line_is : row_line a s ≡ (((decimal s ++ codes " ") ++ decimal (cond (a.accepts s) 1 0)) ++ nexts_of a s (2 ^ a.places)) ++ (10 ∷ [])
  unfolding row_line
  row_line_is = let nexts = nexts_are (numbers (2 ^ a.places)) in grind (arith, common_steps)

-- the table: the line of names and the lines of the states
pub table_text_is : (n size : ℕ) (rows : List ℕ) → table_text n size rows ≡ names_line n ++ flat_map (row_line (written n size rows)) (numbers size)
unfolding table_text
table_text_is n size rows = refl
