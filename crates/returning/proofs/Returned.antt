-- What a loaded table saves as, and what the replies to save say.
use Rattle.std.proofs.Common.{◌≡◌, ℕ, zero, suc, ◌^◌, ◌<◌, ◌≤◌, ◌⊎◌, ◌↔◌, Bool, List, [], ◌∷◌, map, take, length, get_or, Ok, refl, sym, ap, ap₂, ◌∙◌, subst, inl, inr, ⊎_elim, arith}
use Rattle.std.specs.Borrow.{Bor}
use Rattle.std.proofs.lemmas.Bool.{cases_lt}
use Rattle.std.proofs.lemmas.List.FromFn.{length-range_with_len, get_or-range_with_len}
use Rattle.words.specs.Sets.{bit}
use Rattle.words.specs.Words.{Columns, sets}
use Rattle.words.specs.Automata.{Automaton, accepted, run}
use Rattle.words.specs.Formulas.{Formula, placed, Tells, through}
use Rattle.words.specs.Residuals.{Count, MoreThan, SameResidual}
use Rattle.words.specs.Rows.{written}
use Rattle.words.specs.TableOf.{TableOf}
use Rattle.words.proofs.Answering.{table_answers}
use Rattle.words.proofs.Pairing.{count_same, same_state, same_residual}
use Rattle.words.proofs.Placing.{through_below, through_bit}
use Rattle.words.proofs.TableLaws.{table_counts}
use Rattle.saving.specs.Saved.{IsWritten}
use Rattle.saving.specs.TableText.{table_text}
use Rattle.tray.specs.Asked.{SameBookState}
use Rattle.tray.specs.Checks.{FirstFailed, AllPass}
use Rattle.tray.specs.Refusals.{number_of}
use Rattle.tray.specs.declared.control.Control.{Control}
use Rattle.tray.specs.declared.refusal.Refusal.{Refusal}
use Rattle.tray.specs.declared.refusal.Refusal.TheVariants.{NoBuffer, TooFewTables}
use Rattle.calls.specs.declared.call.Call.{Call}
use Rattle.calls.specs.declared.call.Call.TheVariants.{Place, Save}
use Rattle.calls.specs.declared.call.Reply.{Reply}
use Rattle.calls.specs.declared.call.Reply.TheVariants.{Refused, Built, Dropped, Saved, Judged}
use Rattle.calls.specs.Buffers.{Buffers}
use Rattle.calls.specs.Lent.{lent_for}
use Rattle.calls.specs.Owed.{Terms, Desk, Owes, FormulaText, checks}
use Rattle.calls.specs.Pile.{SameMet}
use Rattle.calls.specs.Promise.{terms}
use Rattle.calls.proofs.Failing.{one_refusal}
use Rattle.calls.proofs.OnePile.{one_top}
use Rattle.calls.proofs.OneText.{one_text}
use Rattle.calls.proofs.RunLaws.{run_laws}
use Rattle.loading.specs.declared.loaded.Loaded.{Loaded}
use Rattle.loading.specs.Loaded.{size, automaton, holds, text_of}
use Rattle.loading.specs.LoadedRule.{loaded_rule, same_column}
use Rattle.loading.proofs.SameText.{same_states, same_text_automaton}
use Rattle.returning.specs.LoadedLaws.{LoadedLaws, SavesText}
use Rattle.returning.specs.Returning.{IsTableText, PlaceRefused, Replies, SameBytes, SavesAgain, all_sets, on_all}
use Rattle.returning.proofs.Bounded.{cut_off, cut_small, cut_table, cut_text}

-- ---- read through all sets, a word is as it was

through_all : (k c : ℕ) → c < 2 ^ k → through (all_sets k) c ≡ c
through_all k c h =
    same_column k (through (all_sets k) c) c (subst (λ n. through (all_sets k) c < 2 ^ n) (length-range_with_len 0 k) (through_below (all_sets k) c)) h
    (λ i l. through_bit (all_sets k) i c (omega (arith, l, length-range_with_len 0 k)) ∙ ap (λ j. bit j c) (listed i l))
  where
    listed : (i : ℕ) → i < k → get_or (all_sets k) i 0 ≡ i
    listed i l = omega (arith, get_or-range_with_len 0 k i 0 l)

word_through : (k : ℕ) (w : List ℕ) → Columns k w → map (through (all_sets k)) w ≡ w
word_through k [] cw = refl
word_through k (c ∷ w) cw = ap₂ ◌∷◌ (through_all k c cw.0) (word_through k w cw.1)

-- the first of four sets
pub first_sets : (k : ℕ) → k ≤ 4 → take k (0 ∷ (1 ∷ (2 ∷ (3 ∷ [])))) ≡ all_sets k
first_sets zero h = refl
first_sets (suc zero) h = refl
first_sets (suc (suc zero)) h = refl
first_sets (suc (suc (suc zero))) h = refl
first_sets (suc (suc (suc (suc zero)))) h = refl
first_sets (suc (suc (suc (suc (suc k))))) h = absurd (omega arith)

-- ---- a loaded table whose text is the text of the table of a language

module _ (b : Loaded) (states : ℕ) (from : IsTableText (text_of b) states) where
  n : ℕ
  n = from.0

  L : List ℕ → Bool
  L = from.1

  same : b.states ≡ states
  same = same_states b.places from.0 b.states states b.cells from.2 from.4

  small : states < 2 ^ 64
  small = omega (arith, same, b.few_states)

  cells : List ℕ
  cells = cut_off from.2

  few : (x : ℕ) → get_or b.cells x 0 < 2 ^ 64
  few x = omega (arith, b.sixteen_bits x)

  both_texts : text_of b ≡ table_text from.0 states cells
  unfolding cells
  both_texts = from.4 ∙ cut_text from.0 from.1 from.2 states from.3 small

  automata : written b.places b.states b.cells ≡ written from.0 states cells
  unfolding cells
  automata = same_text_automaton b.places from.0 b.states states b.cells (cut_off from.2) (omega (arith, b.few_states)) few (cut_small from.2) both_texts

  places : b.places ≡ from.0
  places = ap (λ (a : Automaton). a.places) automata

  some : 1 ≤ b.states
  some = omega (arith, same, from.3.some)

  table : TableOf b.places from.1 cells states
  unfolding cells
  table = subst (λ k. TableOf k from.1 (cut_off from.2) states) (sym places) (cut_table from.0 from.1 from.2 states from.3 small)

  own : written b.places b.states b.cells ≡ written b.places states cells
  own = automata ∙ ap (λ k. written k states cells) (sym places)

  -- as many states of the book are met as the table has
  met_states : Count b.places (SameBookState (automaton b 0) (all_sets b.places)) states
  met_states =
      count_same b.places (SameResidual b.places from.1) (SameBookState (automaton b 0) (all_sets b.places)) states
      (λ u w cu cw e. subst (λ (a : Automaton). SameBookState a (all_sets b.places) u w) (sym own)
      (ap (run step 0) (word_through b.places u cu) ∙ same_state b.places from.1 cells states table u w cu cw e ∙ sym (ap (run step 0) (word_through b.places w cw))))
      (λ u w cu cw e. same_residual b.places from.1 cells states table u w cu cw
      (sym (ap (run step 0) (word_through b.places u cu)) ∙ subst (λ (a : Automaton). SameBookState a (all_sets b.places) u w) own e
      ∙ ap (run step 0) (word_through b.places w cw)))
      (table_counts b.places from.1 cells states table)
    where
      step : ℕ → ℕ → ℕ
      step = (written b.places states cells).step

  module _ (holding : ℕ → List ℕ → Type 0) (p : ℕ) (means : (x : List ℕ) → holding p x ↔ holds b 0 x) where
    tells : Tells b.places holding (placed p (all_sets b.places)) from.1
    tells w cw =
        let recognized = ((loaded_rule b).recognizes 0 (omega (arith, some))).means w cw in
        let answer : accepted (written b.places b.states b.cells) w ≡ from.1 w =
        ap (λ a. accepted a w) own ∙ table_answers b.places from.1 cells states table w cw in (
          (λ e. (means (sets b.places w)).1 (recognized.0 (answer ∙ e))),
          (λ h. sym answer ∙ recognized.1 ((means (sets b.places w)).0 h)),
        )

    same_text : FormulaText b.places holding (placed p (all_sets b.places)) (text_of b)
    same_text = (cells, states, (from.1, tells, table), both_texts ∙ ap (λ k. table_text k states cells) (sym places))

-- ---- what save replies

-- a number for a call, by which the calls at hand are told apart
abbrev kind : Call → ℕ
kind (Place p listed) = 1
kind Save = 2
kind _ = 0

no_buffer : (why : Refusal) → number_of why ≡ 8 → why ≡ NoBuffer
no_buffer why e = one_refusal ((8, Unit {0}) ∷ []) why NoBuffer (inl (e, tt)) (inl (refl, tt))

too_few : (why : Refusal) → number_of why ≡ 22 → why ≡ TooFewTables
too_few why e = one_refusal ((22, Unit {0}) ∷ []) why TooFewTables (inl (e, tt)) (inl (refl, tt))

nothing : (f : Formula) (rest : List Formula) → [] ≡ f ∷ rest → ⊥
nothing f rest e = let long = ap length e in omega arith

module _ (t : Terms) (holding : ℕ → List ℕ → Type 0) (few : t.sets ≤ 4) (d e : Desk) where
  -- the formula on top, whose text is written or is too long
  abbrev Says : Formula → Reply → Type 0
  Says f (Saved bytes) = (text : List ℕ) × FormulaText t.sets holding f text × IsWritten text d.buffers.text e.buffers.text bytes
  Says f (Refused why) =
      (e.buffers.text ≡ d.buffers.text) × (why ≡ NoBuffer) × (text : List ℕ) × FormulaText t.sets holding f text × (length d.buffers.text < length text)
  Says f (Built met kept) = ⊥
  Says f Dropped = ⊥
  Says f (Judged j) = ⊥

  says : (f : Formula) (rest : List Formula) → d.pile ≡ f ∷ rest → (r : Reply) → Owes t holding d Save r e → Says f r
  says f rest top (Saved bytes) owed =
      let is : owed.5 ≡ f = (one_top d.pile owed.5 f owed.6 rest owed.8 top).0 in
      (owed.7, subst (λ g. FormulaText t.sets holding g owed.7) is owed.9, owed.10)
  says f rest top (Refused why) (inl h, left) = absurd (omega (arith, h.1, few))
  says f rest top (Refused why) (inr (p, inl h), left) = absurd (omega (arith, h.1, ap length top))
  says f rest top (Refused why) (inr (p, inr (q, inl h)), left) =
      let x = h.1 in
      let is : x.0 ≡ f = (one_top d.pile x.0 f x.1 rest x.3 top).0 in
      (ap (λ (y : Desk). y.buffers.text) left, no_buffer why h.0, x.2, subst (λ g. FormulaText t.sets holding g x.2) is x.4, x.5)
  says f rest top (Refused why) (inr (p, inr (q, inr h)), left) = absurd h.1
  says f rest top (Built met kept) owed = absurd owed.2
  says f rest top Dropped owed = absurd (omega (arith, ap kind owed.2))
  says f rest top (Judged j) owed = absurd (omega (arith, ap kind owed.2))

  -- no table: there is nothing to save
  abbrev None : Reply → Type 0
  None (Refused why) = (why ≡ TooFewTables) × (e.buffers.text ≡ d.buffers.text)
  None (Built met kept) = ⊥
  None Dropped = ⊥
  None (Saved bytes) = ⊥
  None (Judged j) = ⊥

  none : d.pile ≡ [] → (r : Reply) → Owes t holding d Save r e → None r
  none empty (Saved bytes) owed = nothing owed.5 owed.6 (sym empty ∙ owed.8)
  none empty (Refused why) (inl h, left) = absurd (omega (arith, h.1, few))
  none empty (Refused why) (inr (p, inl h), left) = (too_few why h.0, ap (λ (y : Desk). y.buffers.text) left)
  none empty (Refused why) (inr (p, inr (q, inl h)), left) = absurd (nothing h.1.0 h.1.1 (sym empty ∙ h.1.3))
  none empty (Refused why) (inr (p, inr (q, inr h)), left) = absurd h.1
  none empty (Built met kept) owed = absurd owed.2
  none empty Dropped owed = absurd (omega (arith, ap kind owed.2))
  none empty (Judged j) owed = absurd (omega (arith, ap kind owed.2))

-- ---- the laws

module _ (holding : ℕ → List ℕ → Type 0) (b : Loaded) (states : ℕ) (from : IsTableText (text_of b) states) (p : ℕ)
    (means : (x : List ℕ) → holding p x ↔ holds b 0 x) (t : Terms) (d e : Desk) (rest : List Formula) (over : t.sets ≡ b.places)
    (top : d.pile ≡ placed p (all_sets b.places) ∷ rest)
  where
    one : (text : List ℕ) → FormulaText t.sets holding (placed p (all_sets b.places)) text → text ≡ text_of b
    one text x =
        one_text b.places holding (placed p (all_sets b.places)) text (text_of b)
        (subst (λ k. FormulaText k holding (placed p (all_sets b.places)) text) over x) (same_text b states from holding p means)

    saves : (r : Reply) → Says t holding (omega (arith, over, b.few_places)) d e (placed p (all_sets b.places)) r → SavesText (text_of b) d.buffers.text e.buffers.text r
    saves (Saved bytes) x = subst (λ y. IsWritten y d.buffers.text e.buffers.text bytes) (one x.0 x.1) x.2
    saves (Refused why) x = (x.1, subst (λ y. length d.buffers.text < length y) (one x.2 x.3) x.4, x.0)
    saves (Built met kept) x = x
    saves Dropped x = x
    saves (Judged j) x = x

pub loaded_laws : (holding : ℕ → List ℕ → Type 0) (b : Loaded) → LoadedLaws holding b
loaded_laws holding b = record {
  same_text = λ states from p means. same_text b states from holding p means;
  saves = λ states from p means t d e rest r over top owed.
      saves holding b states from p means t d e rest over top r
      (says t holding (omega (arith, over, b.few_places)) d e (placed p (all_sets b.places)) rest top r owed);
}

-- ---- the run

module _ (records budget : ℕ) (b : Loaded) (out : Buffers) (listed : Bor (List ℕ)) (is : listed.now ≡ all_sets b.places) (some : 1 ≤ b.states) where
  abbrev goes_by : Terms
  goes_by = terms (record { sets = b.places; budget = budget; depth = 1 }) (lent_for records) (size b) (automaton b)

  abbrev start : Desk
  start = record { pile = []; buffers = out }

  -- place on the new tray: it is refused, and nothing lies there; or the formula does
  abbrev Placed : Desk → Type 0
  Placed d =
      (PlaceRefused records budget b × (d ≡ start))
      ⊎ ((PlaceRefused records budget b → ⊥) × (d.pile ≡ on_all b ∷ []) × (d.buffers ≡ out))

  listed_at : (j : ℕ) → j < b.places → get_or listed.now j 0 ≡ j
  listed_at j h = omega (arith, ap (λ l. get_or l j 0) is, get_or-range_with_len 0 b.places j 0 h)

  long : length listed.now ≡ b.places
  long = ap length is ∙ length-range_with_len 0 b.places

  refused : (why : Refusal) → FirstFailed (checks goes_by (holds b) start (Place 0 listed)) (number_of why) → PlaceRefused records budget b
  refused why (inl h) = inl (⊎_elim (λ l. l) (λ l. omega (arith, l)) h.1)
  refused why (inr (p0, inl h)) = absurd (omega (arith, h.1, some))
  refused why (inr (p0, inr (p1, inl h))) = absurd (h.1 long)
  refused why (inr (p0, inr (p1, inr (p2, inl h)))) =
      let x = h.1 in
      absurd (omega (arith, x.1, x.2, long, listed_at x.0 (omega (arith, x.1, long))))
  refused why (inr (p0, inr (p1, inr (p2, inr (p3, inl h))))) = absurd (omega (arith, h.1))
  refused why (inr (p0, inr (p1, inr (p2, inr (p3, inr (p4, inl h)))))) =
      let x = h.1 in
      let top = (one_top (x.0 ∷ x.1) x.0 (placed 0 listed.now) x.1 [] refl x.2).0 in
      inr (subst (λ l. MoreThan b.places (SameBookState (automaton b 0) l) budget) is
      (subst (λ f. MoreThan b.places (SameMet b.places (automaton b) (holds b) f) budget) top x.3))
  refused why (inr (p0, inr (p1, inr (p2, inr (p3, inr (p4, inr h)))))) = absurd h.1

  passed : AllPass (checks goes_by (holds b) start (Place 0 listed)) → PlaceRefused records budget b → ⊥
  passed all (inl few) = all.0 (inl few)
  passed all (inr more) =
      all.1.1.1.1.1.0 (placed 0 listed.now, [], refl, subst (λ l. MoreThan b.places (SameBookState (automaton b 0) l) budget) (sym is) more)

  after_place : (r : Reply) (d : Desk) → Owes goes_by (holds b) start (Place 0 listed) r d → Placed d
  after_place (Refused why) d owed = inl (refused why owed.0, owed.1)
  after_place (Built met kept) d owed = inr (passed owed.0, owed.2 ∙ ap (λ l. placed 0 l ∷ []) is, owed.1)
  after_place Dropped d owed = absurd (omega (arith, ap kind owed.2))
  after_place (Saved bytes) d owed = absurd (omega (arith, ap kind owed.2))
  after_place (Judged j) d owed = absurd (omega (arith, ap kind owed.2))

  module _ (d e : Desk) where
    -- where place was refused
    of_none : PlaceRefused records budget b → d ≡ start → (r : Reply) → None goes_by (holds b) b.few_places d e r → Replies records budget b out.text e.buffers.text r
    of_none why left (Refused because) x = (x.1 ∙ ap (λ (y : Desk). y.buffers.text) left, inl (x.0, why))
    of_none why left (Built met kept) x = x
    of_none why left Dropped x = x
    of_none why left (Saved bytes) x = absurd x
    of_none why left (Judged j) x = x

    -- where it was not
    of_top : (PlaceRefused records budget b → ⊥) → d.buffers ≡ out → (r : Reply) → Says goes_by (holds b) b.few_places d e (on_all b) r
        → Replies records budget b out.text e.buffers.text r
    of_top passes buffers (Refused why) x = (
      x.0 ∙ ap (λ (y : Buffers). y.text) buffers,
      inr (x.1, passes, x.2, x.3, subst (λ (y : Buffers). length y.text < length x.2) buffers x.4),
    )
    of_top passes buffers (Saved bytes) x = (passes, x.0, x.1, subst (λ (y : Buffers). IsWritten x.0 y.text e.buffers.text bytes) buffers x.2)
    of_top passes buffers (Built met kept) x = x
    of_top passes buffers Dropped x = x
    of_top passes buffers (Judged j) x = x

    replies : (r : Reply) → Placed d → Owes goes_by (holds b) d Save r e → Replies records budget b out.text e.buffers.text r
    replies r (inl (why, left)) owed = of_none why left r (none goes_by (holds b) b.few_places d e (ap (λ (y : Desk). y.pile) left) r owed)
    replies r (inr (passes, top, buffers)) owed = of_top passes buffers r (says goes_by (holds b) b.few_places d e (on_all b) [] top r owed)

-- what the reply of the run says
pub run_replies : (records budget : ℕ) (b : Loaded) (spare : ℕ) (c : Control) (tables : List ℕ) (out : Buffers) (c' : Control) (tables' : List ℕ) (out' : Buffers)
    (r : Reply) → SavesAgain records budget b spare c tables out c' tables' out' (Ok r) → Replies records budget b out.text out'.text r
run_replies records budget b spare c tables out c' tables' out' r run =
    let promise = run.2 in
    let fed = promise.3 in
    let some : 1 ≤ b.states =
    ⊎_elim (λ l. absurd (promise.0.0 (inl (omega (arith, b.blank (omega (arith, l))))))) (λ l. l) (cases_lt b.states 1) in
    replies records budget b out run.0 run.1 some promise.1 (record { pile = promise.2; buffers = out' }) r
    (subst (Placed records budget b out run.0 run.1 some) (sym fed.2) (after_place records budget b out run.0 run.1 some fed.1.0 fed.0 fed.1.1)) promise.4

-- ---- the same bytes

module _ (records budget : ℕ) (b : Loaded) (text buffer buffer' : List ℕ) (own : text ≡ text_of b) where
  module _ (states : ℕ) (from : IsTableText text states) where
    saved_from : IsTableText (text_of b) states
    saved_from = subst (λ x. IsTableText x states) own from

    abbrev goes : Terms
    goes = terms (record { sets = b.places; budget = budget; depth = 1 }) (lent_for records) (size b) (automaton b)

    more : MoreThan b.places (SameBookState (automaton b 0) (all_sets b.places)) budget ↔ (budget < states)
    more = (run_laws (holds b)).exceeds goes (on_all b) states (met_states b states saved_from)

    one_saved : (x : List ℕ) → FormulaText b.places (holds b) (on_all b) x → x ≡ text
    one_saved x is =
        one_text b.places (holds b) (on_all b) x (text_of b) is (same_text b states saved_from (holds b) 0 (λ y. ((λ h. h), (λ h. h)))) ∙ sym own

    within : (PlaceRefused records budget b → ⊥) → states ≤ budget
    within passes = ⊎_elim (λ l. absurd (passes (inr (more.1 l)))) (λ l. l) (cases_lt budget states)

  pub same_bytes : (r : Reply) → Replies records budget b buffer buffer' r → SameBytes records budget text buffer buffer' r
  same_bytes (Saved bytes) x =
      λ states from. (within states from x.0, subst (λ y. IsWritten y buffer buffer' bytes) (one_saved states from x.1 x.2) x.3)
  same_bytes (Refused why) (left, inl (is, because)) = λ states from. inl (is, ⊎_elim (λ l. inl l) (λ m. inr ((more states from).0 m)) because)
  same_bytes (Refused why) (left, inr x) =
      λ states from. inr (x.0, within states from x.1, subst (λ y. length buffer < length y) (one_saved states from x.2 x.3) x.4)
  same_bytes (Built met kept) x = x
  same_bytes Dropped x = x
  same_bytes (Judged j) x = x
