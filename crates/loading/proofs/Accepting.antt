-- What save wrote is loaded: no check fails of the text of a table of at most 512 states over 1 to 4 sets, if its language depends
-- only on the sets coded.
use Rattle.std.proofs.Common.{◌≡◌, ◌≢◌, ℕ, zero, suc, ◌+◌, ◌*◌, ◌^◌, ◌<◌, ◌≤◌, Bool, true, false, cond, ◌&&◌, ltb, List, [], ◌∷◌, ◌++◌, map, length, drop, get_or, All, refl, sym, ap, ap₂, ◌∙◌, subst, ⊎_elim, length-append, arith}
use Rattle.std.specs.List.{flat_map}
use Rattle.std.proofs.lemmas.Bool.{cases_eq, cases_lt, and_right, ltb-true, cond-false}
use Rattle.std.proofs.lemmas.Grind.{flat_map-append}
use Rattle.std.proofs.lemmas.List.{append-nil, append_assoc, length-map, get_or-map, get_or_append_left}
use Rattle.std.proofs.Math.Seq.{get_or-append_seam}
use Rattle.words.specs.Rows.{width, written, next_of, mark_of}
use Rattle.words.specs.TableOf.{TableOf}
use Rattle.words.proofs.Answering.{step_inside}
use Rattle.words.proofs.Cells.{cell_below}
use Rattle.saving.specs.TableText.{numbers, row_values, row_line}
use Rattle.loading.specs.declared.draft.Draft.{Draft}
use Rattle.loading.specs.Cutting.{cut, Cuts}
use Rattle.loading.specs.Lines.{IsRow}
use Rattle.loading.specs.Whole.{Takes}
use Rattle.loading.proofs.Cuttings.{takes_rows}
use Rattle.loading.proofs.LinesApart.{cut_line}
use Rattle.loading.proofs.Printed.{row_is_line}
use Rattle.loading.proofs.Rewritten.{kept, put_inside, row_within, row_long}
use Rattle.loading.proofs.SameValues.{same_values}

-- ---- lines one after another

pub lines_from : (ℕ → List ℕ) → ℕ → ℕ → List ℕ
lines_from F s zero = []
lines_from F s (suc j) = F s ++ lines_from F (suc s) j

pub no_lines : (F : ℕ → List ℕ) (s : ℕ) → lines_from F s 0 ≡ []
unfolding lines_from
no_lines F s = refl

one_more : (F : ℕ → List ℕ) (s j : ℕ) → lines_from F s (suc j) ≡ lines_from F s j ++ F (s + j)
unfolding lines_from
one_more F s zero = append-nil (F s) ∙ ap F (plus_none s)
  where
    plus_none : (x : ℕ) → x ≡ x + 0
    plus_none x = omega arith
one_more F s (suc j) =
    ap (λ l. F s ++ l) (one_more F (suc s) j)
    ∙ sym (append_assoc (F s) (lines_from F (suc s) j) (F (suc s + j)))
    ∙ ap (λ x. (F s ++ lines_from F (suc s) j) ++ F x) (moved s j)
  where
    moved : (x y : ℕ) → suc x + y ≡ x + suc y
    moved x y = omega arith

pub all_lines : (F : ℕ → List ℕ) (n : ℕ) → flat_map F (numbers n) ≡ lines_from F 0 n
unfolding lines_from
all_lines F zero = refl
all_lines F (suc n) =
    flat_map-append F (numbers n) (n ∷ [])
    ∙ ap₂ ◌++◌ (all_lines F n) (append-nil (F n) ∙ ap F (none_plus n))
    ∙ sym (one_more F 0 n)
  where
    none_plus : (x : ℕ) → x ≡ 0 + x
    none_plus x = omega arith

numbers_length : (n : ℕ) → length (numbers n) ≡ n
numbers_length zero = refl
numbers_length (suc n) = omega (arith, length-append (numbers n) (n ∷ []), numbers_length n)

map_small : (f : ℕ → ℕ) (xs : List ℕ) → ((x : ℕ) → f x ≤ 65535) → All (λ v. v ≤ 65535) (map f xs)
map_small f [] small i d within = absurd (omega arith)
map_small f (x ∷ xs) small zero d within = small x
map_small f (x ∷ xs) small (suc i) d within = map_small f xs small i d (omega arith)

numbers_at : (n c : ℕ) → c < n → get_or (numbers n) c 0 ≡ c
numbers_at zero c h = absurd (omega arith)
numbers_at (suc n) c h =
    ⊎_elim (λ l. get_or_append_left (numbers n) (n ∷ []) 0 c (omega (arith, l, numbers_length n)) ∙ numbers_at n c l)
    (λ l.
    let last : c ≡ length (numbers n) = omega (arith, l, numbers_length n) in
    ap (λ j. get_or (numbers n ++ (n ∷ [])) j 0) last ∙ get_or-append_seam (numbers n) n [] 0 ∙ sym (numbers_length n) ∙ sym last)
    (cases_lt c n)

row_small : (s mark : ℕ) (nexts : List ℕ) → s < 2 ^ 64 → mark ≤ 1 → All (λ v. v ≤ 65535) nexts → All (λ x. x < 2 ^ 64) (s ∷ (mark ∷ nexts))
row_small s mark nexts low one all zero d within = low
row_small s mark nexts low one all (suc zero) d within = omega (arith, one)
row_small s mark nexts low one all (suc (suc i)) d within = omega (arith, all i d (omega arith))

pub one_or_none : (b : Bool) → cond b 1 0 ≤ 1
one_or_none true = omega arith
one_or_none false = omega arith

-- ---- a table and its lines

module _ (k size : ℕ) (L : List ℕ → Bool) (rows : List ℕ) (t : TableOf k L rows size) (few : size ≤ 512) where
  abbrev pub F : ℕ → List ℕ
  F = row_line (written k size rows)

  pub cut_lines : (s j : ℕ) → cut (lines_from F s (suc j)) ≡ (F s, lines_from F (suc s) j)
  unfolding lines_from
  cut_lines s j = cut_line (F s) (lines_from F (suc s) j) (row_is_line (written k size rows) s)

  pub some_lines : (s j : ℕ) → lines_from F s (suc j) ≢ []
  unfolding lines_from
  some_lines s j e =
      let line = row_is_line (written k size rows) s in
      omega (arith, ap length e, length-append (F s) (lines_from F (suc s) j), ap length line.2, length-append line.0 (10 ∷ []))

  -- lines that were cut from them leave the others
  pub left : (s j : ℕ) (lines : List (List ℕ)) (rest : List ℕ) → Cuts (lines_from F s j) lines rest
      → (i : ℕ) × (j ≡ length lines + i) × (rest ≡ lines_from F (s + length lines) i)
  unfolding lines_from
  left s j [] rest cuts = (j, omega arith, cuts ∙ ap (λ x. lines_from F x j) (plus_none s))
    where
      plus_none : (x : ℕ) → x ≡ x + 0
      plus_none x = omega arith
  left s zero (line ∷ lines) rest cuts = absurd (cuts.0 refl)
  left s (suc j) (line ∷ lines) rest cuts =
      let later = left (suc s) j lines rest (subst (λ x. Cuts x lines rest) (ap (λ (x : List ℕ × List ℕ). x.1) (cut_lines s j)) cuts.2) in
      (later.0, omega (arith, later.1), later.2 ∙ ap (λ x. lines_from F x later.0) (moved s (length lines)))
    where
      moved : (x y : ℕ) → suc x + y ≡ x + suc y
      moved x y = omega arith

  -- each line is the line of a row
  small_step : (s c : ℕ) → s < size → (written k size rows).step s c ≤ 65535
  small_step s c hs = go (ltb c (2 ^ k)) refl
    where
      go : (b : Bool) → ltb c (2 ^ k) ≡ b → (written k size rows).step s c ≤ 65535
      go true e = omega (arith, few, step_inside k size rows s c hs (ltb-true c (2 ^ k) e), (t.next s c hs (ltb-true c (2 ^ k) e)).0)
      go false e =
          let none = cond-false (ltb s size && ltb c (2 ^ k)) (next_of k rows s c) 0 (and_right (ltb s size) (ltb c (2 ^ k)) e) in
          omega (arith, none)

  pub is_row : (s : ℕ) → s < size → (cells : List ℕ) × IsRow k s (F s) cells
  unfolding row_line
  is_row s hs =
      let a = written k size rows in
      let nexts : List ℕ = map (a.step s) (numbers (2 ^ k)) in
      let mark : ℕ = cond (a.accepts s) 1 0 in (
        nexts ++ (mark ∷ []),
        (
          nexts,
          mark,
          length-map (numbers (2 ^ k)) (a.step s) ∙ numbers_length (2 ^ k),
          map_small (a.step s) (numbers (2 ^ k)) (λ c. small_step s c hs),
          one_or_none (a.accepts s),
          refl,
          refl,
        ),
      )

  -- the lines that were cut are the lines of rows in their order
  abbrev pub Each : ℕ → List (List ℕ) → Type 0
  Each s [] = Unit {0}
  Each s (line ∷ lines) = (line ≡ row_line (written k size rows) s) × Each (suc s) lines

  pub cuts_each : (s j : ℕ) (lines : List (List ℕ)) (rest : List ℕ) → Cuts (lines_from F s j) lines rest → Each s lines
  unfolding lines_from
  cuts_each s j [] rest cuts = tt
  cuts_each s zero (line ∷ lines) rest cuts = absurd (cuts.0 refl)
  cuts_each s (suc j) (line ∷ lines) rest cuts = (
    cuts.1 ∙ ap (λ (x : List ℕ × List ℕ). x.0) (cut_lines s j),
    cuts_each (suc s) j lines rest (subst (λ x. Cuts x lines rest) (ap (λ (x : List ℕ × List ℕ). x.1) (cut_lines s j)) cuts.2),
  )

  -- what a row says in the memory, when its line is that of a row of the table
  abbrev pub Said : List ℕ → ℕ → Type 0
  Said m r =
      ((c : ℕ) → c < 2 ^ k → next_of k m r c ≡ (written k size rows).step r c) × (mark_of k m r ≡ cond ((written k size rows).accepts r) 1 0)

  values_small : (s : ℕ) → s < size → All (λ x. x < 2 ^ 64) (row_values (written k size rows) s)
  values_small s hs zero d within = omega (arith, few)
  values_small s hs (suc zero) d within = omega (arith, one_or_none ((written k size rows).accepts s))
  values_small s hs (suc (suc i)) d within =
      omega (arith, map_small ((written k size rows).step s) (numbers (2 ^ k)) (λ c. small_step s c hs) i d (omega arith))

  said_row : (s : ℕ) → s < size → (line cells m : List ℕ) → line ≡ row_line (written k size rows) s → IsRow k s line cells
      → ((i : ℕ) → i < width k → get_or m (s * width k + i) 0 ≡ get_or cells i 0) → Said m s
  unfolding row_line
  said_row s hs line cells m is row inside =
      let a = written k size rows in
      let values : row_values a s ≡ s ∷ (row.1 ∷ row.0) =
      same_values s s (cond (a.accepts s) 1 0 ∷ map (a.step s) (numbers (2 ^ k))) (row.1 ∷ row.0) (values_small s hs)
      (row_small s row.1 row.0 (omega (arith, few)) row.4 row.3) (sym is ∙ row.5) in (
        (λ c hc.
            inside c (omega arith)
            ∙ ap (λ l. get_or l c 0) row.6
            ∙ get_or_append_left row.0 (row.1 ∷ []) 0 c (omega (arith, hc, row.2))
            ∙ ap (λ l. get_or (drop 2 l) c 0) (sym values)
            ∙ get_or-map (a.step s) (numbers (2 ^ k)) c 0 0 (omega (arith, hc, numbers_length (2 ^ k)))
            ∙ ap (a.step s) (numbers_at (2 ^ k) c hc)),
        inside (2 ^ k) (omega arith)
            ∙ ap₂ (λ l j. get_or l j 0) row.6 (sym row.2)
            ∙ get_or-append_seam row.0 row.1 [] 0
            ∙ ap (λ l. get_or l 1 0) (sym values),
      )

  -- every row of the draft
  pub said_rows : (d : Draft) (memory : List ℕ) (lines : List (List ℕ)) (e : Draft) (m : List ℕ) → d.places ≡ k → Takes d memory lines e m → Each d.rows lines
      → e.rows ≤ size → (r : ℕ) → d.rows ≤ r → r < e.rows → Said m r
  said_rows d memory [] e m is taken each within r low high = absurd (omega (arith, low, high, ap (λ (x : Draft). x.rows) taken.0))
  said_rows d memory (line ∷ lines) e m is taken each within r low high =
      let e1 = taken.0 in
      let m1 : List ℕ = taken.1 in
      let row = taken.2 in
      let places : e1.places ≡ k = row.1 ∙ is in
      let count : e.rows ≡ e1.rows + length lines = takes_rows e1 m1 lines e m taken.3 in
      let long : length row.3 ≡ width d.places = row_long d.places d.rows line row.3 row.4 in
      let width_is : width d.places ≡ width k = ap width is in
      let in_m1 : (i : ℕ) → i < width k → get_or m1 (d.rows * width k + i) 0 ≡ get_or row.3 i 0 =
      λ i h.
      subst (λ w. get_or m1 (d.rows * w + i) 0 ≡ get_or row.3 i 0) width_is
      (put_inside (d.rows * width d.places) row.3 memory m1 row.5 (row_within d memory line e1 m1 row) i (omega (arith, h, long, width_is))) in
      let stays : (i : ℕ) → i < width k → get_or m (d.rows * width k + i) 0 ≡ get_or m1 (d.rows * width k + i) 0 =
      λ i h.
      kept e1 m1 lines e m taken.3 (d.rows * width k + i)
      (subst (λ j. d.rows * width k + i < e1.rows * width j) (sym places) (cell_below (width k) e1.rows d.rows i (omega (arith, row.2)) h)) in
      ⊎_elim
      (λ same.
      subst (Said m) same
      (said_row d.rows (omega (arith, count, row.2, within)) line row.3 m each.0 (subst (λ j. IsRow j d.rows line row.3) is row.4)
      (λ i h. stays i h ∙ in_m1 i h)))
      (λ other. said_rows e1 m1 lines e m places taken.3 (subst (λ x. Each x lines) (next_row d.rows e1.rows row.2) each.1) within r
      (later d.rows e1.rows r low row.2 other) high)
      (cases_eq d.rows r)
    where
      next_row : (x y : ℕ) → y ≡ x + 1 → suc x ≡ y
      next_row x y e = omega arith

      later : (x y z : ℕ) → x ≤ z → y ≡ x + 1 → (x ≡ z → ⊥) → y ≤ z
      later x y z l e other = ⊎_elim (λ h. omega (arith, e)) (λ h. absurd (other (omega (arith, l, h)))) (cases_lt x z)
