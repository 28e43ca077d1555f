-- The set of states that a word leads to has the states to which the words lead that are equal to it but for one bit.
use Rattle.std.proofs.Common.{◌≡◌, ℕ, ◌^◌, ◌<◌, Bool, ◌↔◌, List, [], ◌∷◌, ◌++◌, Decides, sym, refl, ap, ◌∙◌, subst, inl, inr, ⊎_elim, arith}
use Rattle.std.proofs.lemmas.Bool.Decides.{Decides-like}
use Rattle.words.specs.Words.{Columns}
use Rattle.words.specs.Automata.{Automaton, Moves, run, reach, language, SameReach}
use Rattle.words.specs.TableOf.{TableOf}
use Rattle.words.specs.Hiding.{turned, EqualBut, HidesBit, Collects, SameCollection}
use Rattle.words.proofs.Coding.{columns_push, columns_front, columns_last, columns_append}
use Rattle.words.proofs.Runs.{snoc_ind, run_push, run_append}
use Rattle.words.proofs.Answering.{state_after, table_answers, step_inside}
use Rattle.words.proofs.Pairing.{same_state, same_residual}
use Rattle.words.proofs.Hiding.{turned_there, turned_below}
use Rattle.hiding.specs.declared.state_set.StateSet.{StateSet}
use Rattle.hiding.specs.declared.hidden_rows.HiddenRows.{HiddenRows}
use Rattle.hiding.specs.StateSets.{Has, Meet, Whole, no_states}
use Rattle.hiding.specs.Closings.{automaton, Inside, Closing}
use Rattle.hiding.specs.Collected.{read_by, collected}
use Rattle.hiding.proofs.Inserting.{whole_none, none_has, whole_inserted, has_inserted, same_sets}
use Rattle.hiding.proofs.Meeting.{meeting_decides}
use Rattle.hiding.proofs.Gathering.{gathered_whole, gathered_has}
use Rattle.hiding.proofs.TurnedBits.{turned_either}
use Rattle.hiding.proofs.Collections.{equal_push, equal_pop}

module _ (h : HiddenRows) (L : List ℕ → Bool) (t : TableOf h.rows.places L h.rows.cells.now h.rows.states) (closing : StateSet) where
  abbrev n : ℕ
  n = h.rows.places

  abbrev i : ℕ
  i = h.hidden.set

  abbrev a : Automaton
  a = automaton h

  abbrev m : Moves StateSet
  m = collected h closing

  -- a set that is reached is as the code can hold it
  reached_whole : (w : List ℕ) → Whole (reach m w)
  reached_whole = snoc_ind (λ w. Whole (reach m w)) (whole_inserted no_states whole_none 0)
      (λ u c _. subst Whole (sym (run_push m.next m.start u c)) (gathered_whole (read_by h c) (reach m u)))

  -- a word that is equal to w but for bit i leads to q
  Leads : List ℕ → ℕ → Type 0
  Leads w q = (x : List ℕ) × Columns n x × EqualBut i x w × (run a.step 0 x ≡ q)

  -- the states of the set are those to which such words lead
  Led : List ℕ → Type 0
  Led w = Columns n w → (q : ℕ) → Has (reach m w) q ↔ Leads w q

  led_none : Led []
  unfolding Led Leads
  led_none cs q = (
    (λ s. ⊎_elim (λ e. ([], tt, tt, sym e.1)) (λ none. absurd (none_has q none)) ((has_inserted no_states whole_none 0 q).0 s)),
    (λ x. (has_inserted no_states whole_none 0 q).1 (inl (from x.0 x.2 x.3))),
  )
    where
      from : (x : List ℕ) → EqualBut i x [] → run a.step 0 x ≡ q → (q < 512) × (q ≡ 0)
      from [] e is = (omega (arith, is), sym is)
      from (d ∷ x) e is = absurd e

  led_by : (u : List ℕ) (c q b : ℕ) → b < 2 → c < 2 ^ n → Leads u q → Leads (u ++ c ∷ []) (a.step q (turned i b c))
  unfolding Leads
  led_by u c q b hb hc x =
      let d : ℕ = turned i b c in (
        x.0 ++ d ∷ [],
        columns_push n x.0 d x.1 (turned_below n i b c hb h.inside hc),
        equal_push i x.0 u d c x.2 (turned_there i b c hb),
        run_push a.step 0 x.0 d ∙ ap (λ s. a.step s d) x.3,
      )

  led_more : (u : List ℕ) (c : ℕ) → Led u → Led (u ++ c ∷ [])
  unfolding Led Leads
  led_more u c before cs q = subst (λ s. Has s q ↔ Leads (u ++ c ∷ []) q) (sym (run_push m.next m.start u c)) (to, from)
    where
      old : (p : ℕ) → Has (reach m u) p ↔ Leads u p
      old = before (columns_front n u c cs)

      to : Has (m.next (reach m u) c) q → Leads (u ++ c ∷ []) q
      to s =
          let last = (gathered_has (read_by h c) (reach m u) q).0 s in
          let hc : c < 2 ^ n = columns_last n u c cs in
          let here = (old last.0).0 last.1 in
          ⊎_elim
          (λ e. subst (Leads (u ++ c ∷ [])) (sym e) (led_by u c last.0 0 (omega arith) hc here))
          (λ e. subst (Leads (u ++ c ∷ [])) (sym e) (led_by u c last.0 1 (omega arith) hc here))
          last.2.1

      from : Leads (u ++ c ∷ []) q → Has (m.next (reach m u) c) q
      from x =
          let last = equal_pop i x.0 u c x.2 in
          let y : List ℕ = last.0 in
          let d : ℕ = last.1 in
          let cy : Columns n (y ++ d ∷ []) = subst (Columns n) last.2 x.1 in
          let p : ℕ = run a.step 0 y in
          let there : q ≡ a.step p d = sym x.3 ∙ ap (run a.step 0) last.2 ∙ run_push a.step 0 y d in
          let below = (state_after n L h.rows.cells.now h.rows.states t x.0 x.1).0 in
          (gathered_has (read_by h c) (reach m u) q).1 (
            p,
            (old p).1 (y, columns_front n y d cy, last.3, refl),
            (
              omega (arith, x.3, below, h.few),
              ⊎_elim (λ e. inl (there ∙ ap (a.step p) e)) (λ e. inr (there ∙ ap (a.step p) e)) (turned_either i d c last.4),
            ),
          )

  reached : (w : List ℕ) → Columns n w → (q : ℕ) → Has (reach m w) q ↔ Leads w q
  unfolding Led
  reached = snoc_ind Led led_none led_more

  -- ---- equal sets are the same collection of residuals

  collects : (u w : List ℕ) → Columns n u → Columns n w → reach m u ≡ reach m w → Collects n i L u w
  unfolding Leads
  collects u w cu cw same x cx e =
      let q : ℕ = run a.step 0 x in
      let y = (reached w cw q).0 (subst (λ s. Has s q) same ((reached u cu q).1 (x, cx, e, refl))) in
      (y.0, y.1, y.2, same_residual n L h.rows.cells.now h.rows.states t x y.0 cx y.1 (sym y.3))

  pub reach_collection : (u w : List ℕ) → Columns n u → Columns n w → SameReach m u w → SameCollection n i L u w
  reach_collection u w cu cw same = (collects u w cu cw same, collects w u cw cu (sym same))

  within : (u w : List ℕ) → Columns n u → Columns n w → Collects n i L u w → (q : ℕ) → Has (reach m u) q → Has (reach m w) q
  unfolding Leads
  within u w cu cw all q s =
      let x = (reached u cu q).0 s in
      let y = all x.0 x.1 x.2 in
      (reached w cw q).1 (y.0, y.1, y.2, sym (same_state n L h.rows.cells.now h.rows.states t x.0 y.0 x.1 y.1 y.3) ∙ x.3)

  pub collection_reach : (u w : List ℕ) → Columns n u → Columns n w → SameCollection n i L u w → SameReach m u w
  collection_reach u w cu cw same =
      same_sets (reach m u) (reach m w) (reached_whole u) (reached_whole w) (within u w cu cw same.0) (within w u cw cu same.1)

  -- ---- a set accepts exactly when some word with other bits i, and then columns with no bit but i, is in the language

  table_inside : Inside h
  table_inside q c hq hc = subst (λ x. x < h.rows.states) (sym (step_inside n h.rows.states h.rows.cells.now q c hq hc)) (t.next q c hq hc).0

  module _ (closes : Closing h closing) where
    -- reading on from the state of a word
    on : (x v : List ℕ) → Columns n x → Columns n v → a.accepts (run a.step (run a.step 0 x) v) ≡ L (x ++ v)
    on x v cx cv = ap a.accepts (sym (run_append a.step 0 x v)) ∙ table_answers n L h.rows.cells.now h.rows.states t (x ++ v) (columns_append n x v cx cv)

    meets_hides : (w : List ℕ) → Columns n w → Meet (reach m w) closing → HidesBit n i L w
    unfolding Leads
    meets_hides w cw both =
        let x = (reached w cw both.0).0 both.1 in
        let v = (closes.closes both.0 both.2).1 in
        (x.0, v.0, x.1, v.1, x.2, v.2, sym (on x.0 v.0 x.1 v.1) ∙ ap (λ q. a.accepts (run a.step q v.0)) x.3 ∙ v.3)

    hides_meets : (w : List ℕ) → Columns n w → HidesBit n i L w → Meet (reach m w) closing
    unfolding Leads
    hides_meets w cw (x, v, cx, cv, e, only, is) =
        let q : ℕ = run a.step 0 x in (
          q,
          (reached w cw q).1 (x, cx, e, refl),
          closes.every table_inside q (state_after n L h.rows.cells.now h.rows.states t x cx).0 (v, cv, only, on x v cx cv ∙ is),
        )

    pub language_hides : (w : List ℕ) → Columns n w → Decides (language m w) (HidesBit n i L w)
    language_hides w cw = Decides-like (language m w) (meets_hides w cw) (hides_meets w cw) (meeting_decides (reach m w) closing)
