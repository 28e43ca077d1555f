-- A text of a table determines the table: how many places and states it has, its rows, and so each answer of its automaton.
use Rattle.std.proofs.Common.{◌≡◌, ℕ, zero, suc, ◌^◌, ◌<◌, ◌≤◌, Bool, true, false, cond, ◌&&◌, ◌⊎◌, eqb, ltb, List, [], ◌∷◌, map, length, get_or, drop, decimal, All, sym, refl, ap, ◌∙◌, ap₂, subst, inl, inr, ⊎_elim, arith, lit≤, length-append}
use Rattle.std.specs.List.{flat_map}
use Rattle.std.proofs.lemmas.Bool.{cases_lt, cond_both, cond-false, le-ltb, and_left, and_right}
use Rattle.std.proofs.lemmas.List.{length-map, map-append, same_from_push}
use Rattle.std.proofs.lemmas.List.Elements.{All-cons, All-map}
use Rattle.words.specs.Automata.{Automaton, accepted}
use Rattle.words.specs.Rows.{written, next_of, mark_of}
use Rattle.saving.specs.TableText.{numbers, line_of, names_line, row_line, row_values, table_text}
use Rattle.saving.proofs.Lines.{table_text_is}
use Rattle.loading.proofs.NamesApart.{same_names}
use Rattle.loading.proofs.LinesApart.{same_first, same_lines}
use Rattle.loading.proofs.Printed.{names_are_line, row_is_line}
use Rattle.loading.proofs.SameValues.{same_values}

-- ---- lists over the numbers below k

length_numbers : (k : ℕ) → length (numbers k) ≡ k
length_numbers zero = refl
length_numbers (suc k) = omega (arith, length-append (numbers k) (k ∷ []), length_numbers k)

same_each : {X : Type 0} (f g : ℕ → X) (k : ℕ) → map f (numbers k) ≡ map g (numbers k) → (s : ℕ) → s < k → f s ≡ g s
same_each f g zero same s h = absurd (omega arith)
same_each f g (suc k) same s h =
    let pushed = sym (map-append f (numbers k) (k ∷ [])) ∙ same ∙ map-append g (numbers k) (k ∷ []) in
    let parts = same_from_push (map f (numbers k)) (map g (numbers k)) (f k) (g k) pushed in
    ⊎_elim (λ l. same_each f g k parts.0 s l) (λ l. let is : s ≡ k = omega arith in subst (λ j. f j ≡ g j) (sym is) parts.1) (cases_lt s k)

-- ---- each printed number is below 2^64

module _ (n size : ℕ) (rows : List ℕ) (small : (x : ℕ) → get_or rows x 0 < 2 ^ 64) where
  small_step : (s c : ℕ) → (written n size rows).step s c < 2 ^ 64
  small_step s c = cond_both (ltb s size && ltb c (2 ^ n)) (next_of n rows s c) 0 (λ x. x < 2 ^ 64) (λ e. small _) (λ e. lit≤ tt)

  small_values : (s : ℕ) → s < 2 ^ 64 → All (λ x. x < 2 ^ 64) (row_values (written n size rows) s)
  small_values s low =
      let nexts = map ((written n size rows).step s) (numbers (2 ^ n)) in
      let mark : ℕ = cond ((written n size rows).accepts s) 1 0 in
      All-cons (λ x. x < 2 ^ 64) s (mark ∷ nexts) low
      (All-cons (λ x. x < 2 ^ 64) mark nexts (cond_both ((written n size rows).accepts s) 1 0 (λ x. x < 2 ^ 64) (λ e. lit≤ tt) (λ e. lit≤ tt))
      (All-map (λ x. x < 2 ^ 64) ((written n size rows).step s) (numbers (2 ^ n)) (λ i d h. small_step s _)))

-- ---- the rows

row_text : (a : Automaton) (s : ℕ) → row_line a s ≡ line_of (map decimal (row_values a s))
unfolding row_line
row_text a s = refl

module _ (n k size states : ℕ) (rows cells : List ℕ) (same : table_text n size rows ≡ table_text k states cells) where
  abbrev a : Automaton
  a = written n size rows

  abbrev b : Automaton
  b = written k states cells

  parts : (names_line n ≡ names_line k) × (flat_map (row_line a) (numbers size) ≡ flat_map (row_line b) (numbers states))
  parts =
      same_first (names_line n) (names_line k) (flat_map (row_line a) (numbers size)) (flat_map (row_line b) (numbers states))
      (names_are_line n) (names_are_line k) (sym (table_text_is n size rows) ∙ same ∙ table_text_is k states cells)

  lines : map (row_line a) (numbers size) ≡ map (row_line b) (numbers states)
  lines = same_lines (row_line a) (row_line b) (row_is_line a) (row_is_line b) (numbers size) (numbers states) parts.1

  -- as many lines, as many states
  pub same_states : size ≡ states
  same_states =
      sym (length_numbers size) ∙ sym (length-map (numbers size) (row_line a)) ∙ ap length lines ∙ length-map (numbers states) (row_line b)
      ∙ length_numbers states

  pub same_text_rows : size < 2 ^ 64 → ((x : ℕ) → get_or rows x 0 < 2 ^ 64) → ((x : ℕ) → get_or cells x 0 < 2 ^ 64)
      → (n ≡ k) × (size ≡ states) × ((s : ℕ) → s < size → row_values (written n size rows) s ≡ row_values (written k states cells) s)
  same_text_rows low small small' = (same_names n k parts.0, same_states, each)
    where
      each : (s : ℕ) → s < size → row_values a s ≡ row_values b s
      each s h =
          let fits : s < 2 ^ 64 = omega (arith, h, low) in
          let line = same_each (row_line a) (row_line b) size (lines ∙ ap (λ j. map (row_line b) (numbers j)) (sym same_states)) s h in
          same_values s s (drop 1 (row_values a s)) (drop 1 (row_values b s))
          (small_values n size rows small s fits) (small_values k states cells small' s fits) (sym (row_text a s) ∙ line ∙ row_text b s)

-- ---- the automaton: outside of the rows every answer is 0 or no

mark_bit : (a b : Bool) → cond {A = ℕ} a 1 0 ≡ cond b 1 0 → a ≡ b
mark_bit true true same = refl
mark_bit true false same = absurd (omega (arith, same))
mark_bit false true same = absurd (omega (arith, same))
mark_bit false false same = refl

module _ (n size : ℕ) (rows : List ℕ) where
  past_step : (s c : ℕ) → size ≤ s → (written n size rows).step s c ≡ 0
  past_step s c h =
      cond-false (ltb s size && ltb c (2 ^ n)) (next_of n rows s c) 0 (and_left (ltb s size) (ltb c (2 ^ n)) (le-ltb s size h))

  past_column : (s c : ℕ) → 2 ^ n ≤ c → (written n size rows).step s c ≡ 0
  past_column s c h =
      cond-false (ltb s size && ltb c (2 ^ n)) (next_of n rows s c) 0 (and_right (ltb s size) (ltb c (2 ^ n)) (le-ltb c (2 ^ n) h))

  past_accepts : (s : ℕ) → size ≤ s → (written n size rows).accepts s ≡ false
  past_accepts s h = and_left (ltb s size) (eqb (mark_of n rows s) 1) (le-ltb s size h)

-- rows over as many places and states, with the same numbers
module _ (n size : ℕ) (rows cells : List ℕ)
    (each : (s : ℕ) → s < size → row_values (written n size rows) s ≡ row_values (written n size cells) s)
  where
    listed_step : (s c : ℕ) → s < size → c < 2 ^ n → (written n size rows).step s c ≡ (written n size cells).step s c
    listed_step s c hs = same_each ((written n size rows).step s) ((written n size cells).step s) (2 ^ n) (ap (drop 2) (each s hs)) c

    one_step : (s c : ℕ) → (written n size rows).step s c ≡ (written n size cells).step s c
    one_step s c = state (cases_lt s size) (cases_lt c (2 ^ n))
      where
        state : (s < size) ⊎ (size ≤ s) → (c < 2 ^ n) ⊎ (2 ^ n ≤ c) → (written n size rows).step s c ≡ (written n size cells).step s c
        state (inr past) other = past_step n size rows s c past ∙ sym (past_step n size cells s c past)
        state (inl hs) (inr past) = past_column n size rows s c past ∙ sym (past_column n size cells s c past)
        state (inl hs) (inl hc) = listed_step s c hs hc

    one_mark : (s : ℕ) → (written n size rows).accepts s ≡ (written n size cells).accepts s
    one_mark s =
        ⊎_elim (λ h. mark_bit ((written n size rows).accepts s) ((written n size cells).accepts s) (ap (λ l. get_or l 1 0) (each s h)))
        (λ h. past_accepts n size rows s h ∙ sym (past_accepts n size cells s h)) (cases_lt s size)

    one_automaton : written n size rows ≡ written n size cells
    one_automaton = λ i. record {
      places = n;
      states = size;
      start = 0;
      step = λ s c. one_step s c i;
      accepts = λ s. one_mark s i;
    }

pub same_text_automaton : (n k size states : ℕ) (rows cells : List ℕ) → size < 2 ^ 64
    → ((x : ℕ) → get_or rows x 0 < 2 ^ 64) → ((x : ℕ) → get_or cells x 0 < 2 ^ 64)
    → table_text n size rows ≡ table_text k states cells → written n size rows ≡ written k states cells
same_text_automaton n k size states rows cells low small small' same =
    let found = same_text_rows n k size states rows cells same low small small' in
    let other : written k states cells ≡ written n size cells = ap₂ (λ j m. written j m cells) (sym found.0) (sym found.1) in
    one_automaton n size rows cells (λ s h. found.2 s h ∙ ap (λ a. row_values a s) other) ∙ sym other

pub same_answers : (n k size states : ℕ) (rows cells : List ℕ) → size < 2 ^ 64
    → ((x : ℕ) → get_or rows x 0 < 2 ^ 64) → ((x : ℕ) → get_or cells x 0 < 2 ^ 64)
    → table_text n size rows ≡ table_text k states cells
    → (w : List ℕ) → accepted (written n size rows) w ≡ accepted (written k states cells) w
same_answers n k size states rows cells low small small' same w =
    ap (λ a. accepted a w) (same_text_automaton n k size states rows cells low small small' same)
