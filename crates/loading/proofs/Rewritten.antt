-- The rows of a loaded book have the text that was loaded.
use Rattle.std.proofs.Common.{◌≡◌, ℕ, zero, suc, ◌+◌, ◌*◌, ◌^◌, ◌<◌, ◌≤◌, Bool, true, false, cond, eqb, List, [], ◌∷◌, ◌++◌, map, length, take, drop, get_or, decimal, Ok, refl, sym, ap, ap₂, ◌∙◌, subst, ⊎_elim, mul-le-mul_right, length-take-le, length-append, arith}
use Rattle.std.specs.List.{flat_map}
use Rattle.std.proofs.lemmas.Bool.{cases_lt}
use Rattle.std.proofs.lemmas.Grind.{flat_map-append}
use Rattle.std.proofs.lemmas.List.{append-nil, append_assoc, map-append, take_more, take_all, get_or-take, get_or_append_left, get_or-append-add}
use Rattle.std.proofs.Math.Seq.{get_or-append_seam}
use Rattle.words.specs.Rows.{width, written, mark_of}
use Rattle.words.proofs.Answering.{step_inside, accepts_inside}
use Rattle.words.proofs.Cells.{cell_below}
use Rattle.saving.specs.TableText.{numbers, line_of, names_line, row_values, row_line, table_text}
use Rattle.saving.proofs.Lines.{table_text_is}
use Rattle.loading.specs.declared.draft.Draft.{Draft}
use Rattle.loading.specs.declared.loaded.Loaded.{Loaded}
use Rattle.loading.specs.Cutting.{cut, Cuts}
use Rattle.loading.specs.Drafts.{PutAt, TakesRow, room}
use Rattle.loading.specs.Lines.{IsRow}
use Rattle.loading.specs.Sealing.{Seals}
use Rattle.loading.specs.Whole.{Takes, Reads}
use Rattle.loading.proofs.Cuttings.{takes_rows}

-- ---- the lines that are cut from a text make the text

pub joined : List (List ℕ) → List ℕ
joined [] = []
joined (line ∷ lines) = line ++ joined lines

cut_one : (b : ℕ) (text : List ℕ) (x : Bool) → (cut text).0 ++ (cut text).1 ≡ text
    → (cond {A = List ℕ × List ℕ} x (b ∷ [], text) (b ∷ (cut text).0, (cut text).1)).0 ++ (cond {A = List ℕ × List ℕ} x (b ∷ [], text) (b ∷ (cut text).0, (cut text).1)).1 ≡ b ∷ text
cut_one b text true e = refl
cut_one b text false e = ap (λ t. b ∷ t) e

cut_whole : (text : List ℕ) → (cut text).0 ++ (cut text).1 ≡ text
cut_whole [] = refl
cut_whole (b ∷ text) = cut_one b text (eqb b 10) (cut_whole text)

pub cuts_whole : (text : List ℕ) (lines : List (List ℕ)) (rest : List ℕ) → Cuts text lines rest → joined lines ++ rest ≡ text
unfolding joined
cuts_whole text [] rest cuts = cuts
cuts_whole text (line ∷ lines) rest cuts =
    append_assoc line (joined lines) rest
    ∙ ap₂ ◌++◌ cuts.1 (cuts_whole ((cut text).1) lines rest cuts.2)
    ∙ cut_whole text

-- ---- numbers that were put into a memory

module _ (base : ℕ) (cells memory memory' : List ℕ) (put : PutAt base cells memory memory') (within : base ≤ length memory) where
  put_below : (x : ℕ) → x < base → get_or memory' x 0 ≡ get_or memory x 0
  put_below x h =
      ap (λ l. get_or l x 0) put
      ∙ get_or_append_left (take base memory) (cells ++ drop (base + length cells) memory) 0 x (omega (arith, h, length-take-le base memory within))
      ∙ get_or-take base memory x 0 h

  pub put_inside : (i : ℕ) → i < length cells → get_or memory' (base + i) 0 ≡ get_or cells i 0
  put_inside i h =
      ap (λ l. get_or l (base + i) 0) put
      ∙ ap (λ b. get_or (take base memory ++ (cells ++ drop (base + length cells) memory)) (b + i) 0) (sym (length-take-le base memory within))
      ∙ get_or-append-add (take base memory) (cells ++ drop (base + length cells) memory) i 0
      ∙ get_or_append_left cells (drop (base + length cells) memory) 0 i h

-- the place of a row lies within the memory
pub row_within : (d : Draft) (memory line : List ℕ) (e : Draft) (m : List ℕ) → TakesRow d memory line e m (Ok tt) → d.rows * width d.places ≤ length memory
row_within d memory line e m row =
    let enough : room d.places ≤ length memory = ⊎_elim (λ l. absurd (row.0.0 l)) (λ l. l) (cases_lt (length memory) (room d.places)) in
    omega (arith, enough, mul-le-mul_right (width d.places) d.few_rows)

-- later rows leave those before them as they are
pub kept : (d : Draft) (memory : List ℕ) (lines : List (List ℕ)) (e : Draft) (m : List ℕ) → Takes d memory lines e m
    → (x : ℕ) → x < d.rows * width d.places → get_or m x 0 ≡ get_or memory x 0
kept d memory [] e m taken x h = ap (λ l. get_or l x 0) taken.1
kept d memory (line ∷ lines) e m taken x h =
    let row = taken.2 in
    let within = row_within d memory line taken.0 taken.1 row in
    let further : x < taken.0.rows * width taken.0.places =
    subst (λ k. x < taken.0.rows * width k) (sym row.1) (omega (arith, h, mul-le-mul_right (width d.places) (more d.rows taken.0.rows row.2))) in
    kept taken.0 taken.1 lines e m taken.3 x further
    ∙ put_below (d.rows * width d.places) row.3 memory taken.1 row.5 within x h
  where
    more : (a b : ℕ) → b ≡ a + 1 → a ≤ b
    more a b e = omega arith

pub same_places : (d : Draft) (memory : List ℕ) (lines : List (List ℕ)) (e : Draft) (m : List ℕ) → Takes d memory lines e m → e.places ≡ d.places
same_places d memory [] e m taken = ap (λ (x : Draft). x.places) taken.0
same_places d memory (line ∷ lines) e m taken = same_places taken.0 taken.1 lines e m taken.3 ∙ taken.2.1

-- ---- one line

-- the values of a function at the first numbers, where they are those of a list
map_front : (f : ℕ → ℕ) (values : List ℕ) (k : ℕ) → k ≤ length values → ((c : ℕ) → c < k → f c ≡ get_or values c 0) → map f (numbers k) ≡ take k values
map_front f values zero within same = refl
map_front f values (suc k) within same =
    map-append f (numbers k) (k ∷ [])
    ∙ ap₂ (λ l x. l ++ x ∷ []) (map_front f values k (omega arith) (λ c h. same c (omega arith))) (same k (omega arith))
    ∙ sym (take_more values k 0 (omega arith))
    ∙ ap (λ j. take j values) (one_on k)
  where
    one_on : (j : ℕ) → j + 1 ≡ suc j
    one_on j = omega arith

small_mark : (mark : ℕ) → mark ≤ 1 → cond (eqb mark 1) 1 0 ≡ mark
small_mark zero h = refl
small_mark (suc zero) h = refl
small_mark (suc (suc m)) h = absurd (omega arith)

module _ (k n s : ℕ) (line row cells : List ℕ) (there : s < n) (is : IsRow k s line row)
    (same : (i : ℕ) → i < width k → get_or cells (s * width k + i) 0 ≡ get_or row i 0)
  where
    nexts : List ℕ
    nexts = is.0

    mark : ℕ
    mark = is.1

    next_same : (c : ℕ) → c < 2 ^ k → (written k n cells).step s c ≡ get_or nexts c 0
    unfolding nexts mark
    next_same c h =
        step_inside k n cells s c there h
        ∙ same c (omega arith)
        ∙ ap (λ l. get_or l c 0) is.6
        ∙ get_or_append_left nexts (mark ∷ []) 0 c (omega (arith, h, is.2))

    mark_same : mark_of k cells s ≡ mark
    unfolding nexts mark
    mark_same =
        same (2 ^ k) (omega arith)
        ∙ ap₂ (λ l j. get_or l j 0) is.6 (sym is.2)
        ∙ get_or-append_seam nexts mark [] 0

    accepts_same : cond ((written k n cells).accepts s) 1 0 ≡ mark
    unfolding nexts mark
    accepts_same =
        ap (λ b. cond b 1 0) (accepts_inside k n cells s (eqb mark 1) there (mark_same ∙ sym (small_mark mark is.4))) ∙ small_mark mark is.4

    values_same : row_values (written k n cells) s ≡ s ∷ (mark ∷ nexts)
    unfolding nexts mark
    values_same =
        ap₂ (λ m l. s ∷ (m ∷ l)) accepts_same
        (map_front ((written k n cells).step s) nexts (2 ^ k) (omega (arith, is.2)) next_same ∙ take_all (2 ^ k) nexts (omega (arith, is.2)))

    line_same : line ≡ row_line (written k n cells) s
    unfolding nexts mark row_line
    line_same = is.5 ∙ ap (λ v. line_of (map decimal v)) (sym values_same)

pub row_long : (k s : ℕ) (line row : List ℕ) → IsRow k s line row → length row ≡ width k
row_long k s line row is = omega (arith, ap length is.6, length-append is.0 (is.1 ∷ []), is.2)

next_number : (r : ℕ) → r + 1 ≡ suc r
next_number r = omega arith

-- ---- all lines

module _ (k n : ℕ) (cells : List ℕ) where
  pub lines_same : (d : Draft) (memory : List ℕ) (lines : List (List ℕ)) (e : Draft) (m : List ℕ) → d.places ≡ k → Takes d memory lines e m → e.rows ≤ n
      → ((x : ℕ) → x < e.rows * width k → get_or cells x 0 ≡ get_or m x 0)
      → flat_map (row_line (written k n cells)) (numbers e.rows) ≡ flat_map (row_line (written k n cells)) (numbers d.rows) ++ joined lines
  unfolding joined
  lines_same d memory [] e m is taken few same =
      ap (λ (x : Draft). flat_map (row_line (written k n cells)) (numbers x.rows)) taken.0
      ∙ sym (append-nil (flat_map (row_line (written k n cells)) (numbers d.rows)))
  lines_same d memory (line ∷ lines) e m is taken few same =
      let e1 = taken.0 in
      let m1 : List ℕ = taken.1 in
      let row = taken.2 in
      let F = row_line (written k n cells) in
      let places : e1.places ≡ k = row.1 ∙ is in
      let count : e.rows ≡ e1.rows + length lines = takes_rows e1 m1 lines e m taken.3 in
      let below : d.rows < e.rows = omega (arith, count, row.2) in
      let width_is : width d.places ≡ width k = ap width is in
      let long : length row.3 ≡ width d.places = row_long d.places d.rows line row.3 row.4 in
      let in_m1 : (i : ℕ) → i < width k → get_or m1 (d.rows * width k + i) 0 ≡ get_or row.3 i 0 =
      λ i h.
      subst (λ w. get_or m1 (d.rows * w + i) 0 ≡ get_or row.3 i 0) width_is
      (put_inside (d.rows * width d.places) row.3 memory m1 row.5 (row_within d memory line e1 m1 row) i (omega (arith, h, long, width_is))) in
      let stays : (i : ℕ) → i < width k → get_or m (d.rows * width k + i) 0 ≡ get_or m1 (d.rows * width k + i) 0 =
      λ i h.
      kept e1 m1 lines e m taken.3 (d.rows * width k + i)
      (subst (λ j. d.rows * width k + i < e1.rows * width j) (sym places) (cell_below (width k) e1.rows d.rows i (omega (arith, row.2)) h)) in
      let inside : (i : ℕ) → i < width k → get_or cells (d.rows * width k + i) 0 ≡ get_or row.3 i 0 =
      λ i h. same (d.rows * width k + i) (cell_below (width k) e.rows d.rows i below h) ∙ stays i h ∙ in_m1 i h in
      let here : line ≡ F d.rows =
      line_same k n d.rows line row.3 cells (omega (arith, below, few)) (subst (λ j. IsRow j d.rows line row.3) is row.4) inside in
      lines_same e1 m1 lines e m places taken.3 few same
      ∙ ap (λ j. flat_map F (numbers j) ++ joined lines) (row.2 ∙ next_number d.rows)
      ∙ ap (λ l. l ++ joined lines) (flat_map-append F (numbers d.rows) (d.rows ∷ []))
      ∙ ap (λ l. (flat_map F (numbers d.rows) ++ l) ++ joined lines) (append-nil (F d.rows) ∙ sym here)
      ∙ append_assoc (flat_map F (numbers d.rows)) line (joined lines)

-- ---- the whole text

pub loaded_text : (text memory name : List ℕ) (d : Draft) (lines : List (List ℕ)) (e : Draft) (m : List ℕ) (b b' : Loaded)
    → Reads text memory d lines e m [] → Seals e m name b b' (Ok tt) → text ≡ table_text b'.places b'.states b'.cells
loaded_text text memory name d lines e m b b' reads sealed =
    let k : ℕ = b'.places in
    let F = row_line (written k b'.states b'.cells) in
    let held = sealed.1 in
    let places : d.places ≡ k = sym (same_places d memory lines e m reads.2) ∙ sym held.places in
    let count : b'.states ≡ e.rows = held.states in
    let used : ℕ = e.rows * width e.places in
    let same : (x : ℕ) → x < e.rows * width k → get_or b'.cells x 0 ≡ get_or m x 0 =
    λ x h.
    let low : x < used = subst (λ j. x < e.rows * width j) held.places h in
    sym (get_or-take used b'.cells x 0 low) ∙ ap (λ l. get_or l x 0) held.cells ∙ get_or-take used m x 0 low in
    let rows : flat_map F (numbers e.rows) ≡ flat_map F (numbers d.rows) ++ joined lines =
    lines_same k b'.states b'.cells d memory lines e m places reads.2 (omega (arith, count)) same in
    let none : d.rows ≡ 0 = reads.0.2 in
    let first : (cut text).0 ≡ names_line k = reads.0.1.2 ∙ ap names_line places in
    let rest : (cut text).1 ≡ flat_map F (numbers b'.states) =
    sym (cuts_whole ((cut text).1) lines [] reads.1) ∙ append-nil (joined lines)
    ∙ ap (λ j. flat_map F (numbers j) ++ joined lines) (sym none)
    ∙ sym rows ∙ ap (λ j. flat_map F (numbers j)) (sym count) in
    sym (cut_whole text) ∙ ap₂ ◌++◌ first rest ∙ sym (table_text_is k b'.states b'.cells)
