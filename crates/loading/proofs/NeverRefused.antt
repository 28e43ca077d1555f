-- The text of a table that save wrote is never refused.
use Rattle.std.proofs.Common.{◌≡◌, ◌≢◌, ℕ, zero, suc, ◌+◌, ◌*◌, ◌^◌, ◌<◌, ◌≤◌, Bool, cond, List, [], ◌∷◌, ◌++◌, length, take, drop, Ok, Err, Result, inl, inr, ⊎_elim, refl, sym, ap, ◌∙◌, subst, pow_pos, length-append, length-take-le, length-drop, arith}
use Rattle.std.proofs.lemmas.List.{append-nil}
use Rattle.words.specs.Rows.{width, written, next_of, mark_of}
use Rattle.words.specs.Residuals.{BySets}
use Rattle.words.specs.TableOf.{TableOf}
use Rattle.words.proofs.Answering.{step_inside, accepts_inside}
use Rattle.words.proofs.Coding.{columns_append, zeros_at_end}
use Rattle.saving.specs.TableText.{names_line, row_line, table_text}
use Rattle.saving.proofs.Lines.{table_text_is}
use Rattle.books.specs.Names.{IsName}
use Rattle.tray.specs.Checks.{FirstFailed}
use Rattle.tray.proofs.Checking.{not_above, not_below, within_slots}
use Rattle.loading.specs.declared.draft.Draft.{Draft}
use Rattle.loading.specs.declared.loaded.Loaded.{Loaded}
use Rattle.loading.specs.declared.reading.Fault.{Fault}
use Rattle.loading.specs.Cutting.{cut, Cuts}
use Rattle.loading.specs.Drafts.{IsNames, LeadsOut, Unsettles, begin_checks, row_checks, seal_checks, room}
use Rattle.loading.specs.Lines.{IsRow}
use Rattle.loading.specs.Numbers.{number_of}
use Rattle.loading.specs.Whole.{Loads, LoadsSaved, Reads, Takes}
use Rattle.loading.proofs.Accepting.{lines_from, no_lines, some_lines, one_or_none, all_lines, cut_lines, left, Each, cuts_each, is_row, said_rows, Said}
use Rattle.loading.proofs.Cuttings.{takes_rows}
use Rattle.loading.proofs.LinesApart.{cut_line}
use Rattle.loading.proofs.NamesApart.{one_names}
use Rattle.loading.proofs.Printed.{names_are_line}
use Rattle.loading.proofs.Rewritten.{row_within, row_long, same_places}

-- ---- rows keep the length of the memory

pub length_kept : (d : Draft) (memory : List ℕ) (lines : List (List ℕ)) (e : Draft) (m : List ℕ) → Takes d memory lines e m → length m ≡ length memory
length_kept d memory [] e m taken = ap length taken.1
length_kept d memory (line ∷ lines) e m taken =
    let row = taken.2 in
    let base : ℕ = d.rows * width d.places in
    let cells : List ℕ = row.3 in
    let long : length cells ≡ width d.places = row_long d.places d.rows line row.3 row.4 in
    let below : d.rows < 512 = not_above 512 d.rows row.0.1.0 in
    let enough : 512 * width d.places ≤ length memory = not_below (length memory) (room d.places) row.0.0 in
    let fits : base + length cells ≤ length memory = omega (arith, long, within_slots 512 d.rows (width d.places) (length memory) below enough) in
    length_kept taken.0 taken.1 lines e m taken.3
    ∙ omega (
      arith,
      ap length row.5,
      length-append (take base memory) (cells ++ drop (base + length cells) memory),
      length-append cells (drop (base + length cells) memory),
      length-take-le base memory (row_within d memory line taken.0 taken.1 row),
      length-drop (base + length cells) memory,
      fits,
    )

module _ (text memory name : List ℕ) (k : ℕ) (L : List ℕ → Bool) (rows : List ℕ) (size : ℕ) (low : 1 ≤ k) (high : k ≤ 4) (few : size ≤ 512)
    (t : TableOf k L rows size) (by_sets : BySets k L) (is : text ≡ table_text k size rows) (enough : room k ≤ length memory) (named : IsName name)
  where
    whole : cut text ≡ (names_line k, lines_from (row_line (written k size rows)) 0 size)
    whole =
        ap cut (is ∙ table_text_is k size rows ∙ ap (λ l. names_line k ++ l) (all_lines (row_line (written k size rows)) size))
        ∙ cut_line (names_line k) (lines_from (row_line (written k size rows)) 0 size) (names_are_line k)

    names : IsNames ((cut text).0) k
    names = (low, high, ap (λ (x : List ℕ × List ℕ). x.0) whole)

    pub never_begun : (n : ℕ) → FirstFailed (begin_checks ((cut text).0) (length memory)) n → ⊥
    never_begun n (inl h) = h.1 k names
    never_begun n (inr (p, inl h)) =
        let short = h.1 in
        let same : short.0 ≡ k = one_names ((cut text).0) short.0 k short.1 names in
        let l : length memory < room k = subst (λ j. length memory < room j) same short.2 in
        omega (arith, l, enough)
    never_begun n (inr (p, inr h)) = h.1

    module _ (d : Draft) (lines : List (List ℕ)) (e : Draft) (m rest : List ℕ) (reads : Reads text memory d lines e m rest) where
      places : e.places ≡ k
      places = same_places d memory lines e m reads.2 ∙ one_names ((cut text).0) d.places k reads.0.1 names

      none : d.rows ≡ 0
      none = reads.0.2

      count : e.rows ≡ length lines
      count = omega (arith, takes_rows d memory lines e m reads.2, none)

      cuts : Cuts (lines_from (row_line (written k size rows)) 0 size) lines rest
      cuts = subst (λ x. Cuts x lines rest) (ap (λ (x : List ℕ × List ℕ). x.1) whole) reads.1

      others : (i : ℕ) × (size ≡ length lines + i) × (rest ≡ lines_from (row_line (written k size rows)) (0 + length lines) i)
      others = left k size L rows t few 0 size lines rest cuts

      room_left : length m < room e.places → ⊥
      room_left short =
          let l : length m < room k = subst (λ j. length m < room j) places short in
          omega (arith, l, enough, length_kept d memory lines e m reads.2)

      -- what is left begins with the line of the next row
      next_line : (i : ℕ) → size ≡ length lines + i → rest ≡ lines_from (row_line (written k size rows)) (0 + length lines) i → rest ≢ []
          → (length lines < size) × ((cut rest).0 ≡ row_line (written k size rows) (0 + length lines))
      next_line zero total left_over some = absurd (some (left_over ∙ no_lines (row_line (written k size rows)) (0 + length lines)))
      next_line (suc i) total left_over some = (
        omega (arith, total),
        ap (λ x. (cut x).0) left_over ∙ ap (λ (x : List ℕ × List ℕ). x.0) (cut_lines k size L rows t few (0 + length lines) i),
      )

      pub never_row : (n : ℕ) → rest ≢ [] → FirstFailed (row_checks e (length m) (cut rest).0) n → ⊥
      never_row n some (inl h) = room_left h.1
      never_row n some (inr (p, inl h)) =
          let next = next_line others.0 others.1 others.2 some in
          omega (arith, h.1, next.0, few, count)
      never_row n some (inr (p, inr (q, inl h))) =
          let next = next_line others.0 others.1 others.2 some in
          let row = is_row k size L rows t few e.rows (omega (arith, next.0, count)) in
          let line : (cut rest).0 ≡ row_line (written k size rows) e.rows = next.1 ∙ ap (row_line (written k size rows)) (omega (arith, count)) in
          h.1 row.0 (subst (λ j. IsRow j e.rows (cut rest).0 row.0) (sym places) (subst (λ l. IsRow k e.rows l row.0) (sym line) row.1))
      never_row n some (inr (p, inr (q, inr h))) = h.1

    -- ---- seal

    module _ (d : Draft) (lines : List (List ℕ)) (e : Draft) (m : List ℕ) (reads : Reads text memory d lines e m []) where
      no_more : (i : ℕ) → size ≡ length lines + i → [] ≡ lines_from (row_line (written k size rows)) (0 + length lines) i → size ≡ length lines
      no_more zero total left_over = omega (arith, total)
      no_more (suc i) total left_over = absurd (some_lines k size L rows t few (0 + length lines) i (sym left_over))

      all : e.rows ≡ size
      all =
          let o = others d lines e m [] reads in
          omega (arith, count d lines e m [] reads, no_more o.0 o.1 o.2)

      said : (r : ℕ) → r < size → Said k size L rows t few m r
      said r h =
          said_rows k size L rows t few d memory lines e m (one_names ((cut text).0) d.places k reads.0.1 names) reads.2
          (subst (λ s. Each k size L rows t few s lines) (sym (none d lines e m [] reads))
          (cuts_each k size L rows t few 0 size lines [] (cuts d lines e m [] reads)))
          (omega (arith, all)) r (omega (arith, none d lines e m [] reads)) (omega (arith, h, all))

      inside : (r c : ℕ) → r < size → c < 2 ^ k → next_of k m r c ≡ next_of k rows r c
      inside r c hr hc = (said r hr).0 c hc ∙ step_inside k size rows r c hr hc

      -- a state and the one that column 0 leads to accept alike
      alike : (r : ℕ) → r < size → (written k size rows).accepts (next_of k rows r 0) ≡ (written k size rows).accepts r
      alike r hr =
          let to : ℕ = next_of k rows r 0 in
          let leads = t.next r 0 hr (pow_pos k) in
          accepts_inside k size rows to (L (t.first to)) leads.0 (t.mark to leads.0)
          ∙ ap L (sym (append-nil (t.first to)))
          ∙ sym (leads.1 [] tt)
          ∙ ap L (append-nil (t.first r ++ (0 ∷ [])))
          ∙ by_sets (t.first r ++ (0 ∷ [])) (t.first r) (columns_append k (t.first r) (0 ∷ []) (t.columns r hr) (pow_pos k, tt)) (t.columns r hr)
          (λ i h. zeros_at_end i 1 (t.first r))
          ∙ sym (accepts_inside k size rows r (L (t.first r)) hr (t.mark r hr))

      mark_small : (r : ℕ) → r < size → mark_of k m r ≤ 1
      mark_small r hr = omega (arith, (said r hr).1, one_or_none ((written k size rows).accepts r))

      settled : (r : ℕ) → r < size → mark_of k m r ≡ mark_of k m (next_of k m r 0)
      settled r hr =
          let to : ℕ = next_of k rows r 0 in
          (said r hr).1
          ∙ ap (λ b. cond b 1 0) (sym (alike r hr))
          ∙ sym (said to (t.next r 0 hr (pow_pos k)).0).1
          ∙ ap (mark_of k m) (sym (inside r 0 hr (pow_pos k)))

      pub never_sealed : (n : ℕ) → FirstFailed (seal_checks e m name) n → ⊥
      never_sealed n (inl h) = room_left d lines e m [] reads h.1
      never_sealed n (inr (p, inl h)) = h.1 named
      never_sealed n (inr (p, inr (q, inl h))) = omega (arith, h.1, all, t.some)
      never_sealed n (inr (p, inr (q, inr (u, inl h)))) =
          let x = h.1 in
          let wrong : 1 < mark_of k m x.0 = subst (λ j. 1 < mark_of j m x.0) (places d lines e m [] reads) x.2 in
          omega (arith, wrong, mark_small x.0 (omega (arith, x.1, all)))
      never_sealed n (inr (p, inr (q, inr (u, inr (v, inl h))))) =
          let x = h.1 in
          let out = subst (λ j. LeadsOut j e.rows m x.0) (places d lines e m [] reads) x.2 in
          let there : x.0 < size = omega (arith, x.1, all) in
          omega (arith, out.1.1, all, inside x.0 out.0 there out.1.0, (t.next x.0 out.0 there out.1.0).0)
      never_sealed n (inr (p, inr (q, inr (u, inr (v, inr (y, inl h)))))) =
          let x = h.1 in
          subst (λ j. Unsettles j m x.0) (places d lines e m [] reads) x.2 (settled x.0 (omega (arith, x.1, all)))
      never_sealed n (inr (p, inr (q, inr (u, inr (v, inr (y, inr h)))))) = h.1

-- whatever load answers
pub loads_saved : (text memory name : List ℕ) (b : Loaded) (m : List ℕ) (b' : Loaded) (r : Result (Unit {0}) Fault) → Loads text memory name b m b' r
    → LoadsSaved text (length memory) name r
loads_saved text memory name b m b' (Ok done) loads k L rows size low high few t by_sets is enough named = refl
loads_saved text memory name b m b' (Err f) loads k L rows size low high few t by_sets is enough named =
    absurd (⊎_elim
    (λ x. never_begun text memory name k L rows size low high few t by_sets is enough named (number_of f.why) x.1)
    (λ y. ⊎_elim
    (λ x. never_row text memory name k L rows size low high few t by_sets is enough named x.0 x.1 x.2 x.3 x.4 x.5 (number_of f.why) x.6 x.8.0)
    (λ x. never_sealed text memory name k L rows size low high few t by_sets is enough named x.0 x.1 x.2 m x.4 (number_of x.3.why) x.7.0)
    y)
    loads.1)
