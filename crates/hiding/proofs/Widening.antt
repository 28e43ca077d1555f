-- The rounds that look past a word's end.
use Rattle.std.proofs.Common.{◌≡◌, ℕ, zero, suc, ◌+◌, ◌^◌, ◌<◌, ◌≤◌, Bool, true, false, cond, List, [], ◌∷◌, Decides, refl, ap, ◌∙◌, subst, inl, inr, ⊎_elim, arith, pow_pos, below_more}
use Rattle.std.proofs.lemmas.Bool.{true≢false}
use Rattle.words.specs.Words.{Columns}
use Rattle.words.specs.Automata.{Automaton, run}
use Rattle.words.specs.Hiding.{turned, AgreeBut, OnlyBit}
use Rattle.words.proofs.Hiding.{turned_there, turned_below}
use Rattle.hiding.specs.declared.state_set.StateSet.{StateSet}
use Rattle.hiding.specs.declared.hidden_rows.HiddenRows.{HiddenRows}
use Rattle.hiding.specs.StateSets.{Has, is_in, no_states, inserted, missing}
use Rattle.hiding.specs.Closings.{automaton, Closes, Inside, Closing, Marked, Enters, Widens}
use Rattle.hiding.proofs.TurnedBits.{turned_either, zero_off}
use Rattle.hiding.proofs.Inserting.{in_decides, whole_none, none_has, whole_inserted, has_inserted}

-- ---- how many states are missing

module _ (s s' : StateSet) (more : (q : ℕ) → Has s q → Has s' q) where
  counted_less : (q : ℕ) → cond (is_in s' q) 0 1 ≤ cond (is_in s q) 0 1
  counted_less q = grind (arith, in_decides s q, in_decides s' q, more q)

  counted_here : (q : ℕ) → (Has s q → ⊥) → Has s' q → cond (is_in s' q) 0 1 < cond (is_in s q) 0 1
  counted_here q not here = grind (arith, in_decides s q, in_decides s' q)

  pub missing_falls : (k : ℕ) → missing k s' ≤ missing k s
  unfolding missing
  missing_falls zero = omega arith
  missing_falls (suc k) = omega (arith, missing_falls k, counted_less k)

  pub missing_less : (k q : ℕ) → q < k → (Has s q → ⊥) → Has s' q → missing k s' < missing k s
  unfolding missing
  missing_less zero q h not here = absurd (omega arith)
  missing_less (suc k) q h not here = grind (arith, missing_falls k, missing_less k q, counted_less k, counted_here q not here)

module _ (h : HiddenRows) where
  abbrev a : Automaton
  a = automaton h

  -- ---- the accepting states

  pub marked_none : Marked h 0 no_states
  marked_none = record { whole = whole_none; only = λ q m. absurd (none_has q m); every = λ q l e. absurd (omega arith) }

  module _ (k : ℕ) (s : StateSet) (m : Marked h k s) where
    pub marked_in : k < 512 → a.accepts k ≡ true → Marked h (k + 1) (inserted s k)
    marked_in small is = record {
      whole = whole_inserted s m.whole k;
      only = λ q old. grind (arith, (has_inserted s m.whole k q).0 old, m.only q);
      every = λ q l e. (has_inserted s m.whole k q).1 (grind (arith, m.every q));
    }

    pub marked_out : a.accepts k ≡ false → Marked h (k + 1) s
    marked_out is = record {
      whole = m.whole;
      only = λ q old. grind (arith, m.only q old);
      every = λ q l e. grind (arith, m.every q, ap a.accepts);
    }

  -- ---- columns with no bit but the hidden one

  closes_by : (q c : ℕ) → c < 2 ^ h.rows.places → AgreeBut h.hidden.set c 0 → Closes h (a.step q c) → Closes h q
  closes_by q c low only m = (c ∷ m.0, (low, m.1), (only, m.2), m.3)

  enters_closes : (q : ℕ) (s : StateSet) → ((t : ℕ) → Has s t → Closes h t) → Enters h s q → Closes h q
  enters_closes q s closes (inl m) = closes_by q 0 (pow_pos h.rows.places) (λ j other. refl) (closes _ m)
  enters_closes q s closes (inr m) =
      closes_by q (turned h.hidden.set 1 0) (turned_below h.rows.places h.hidden.set 1 0 (omega arith) h.inside (pow_pos h.rows.places))
      (turned_there h.hidden.set 1 0 (omega arith)) (closes _ m)

  -- ---- one round

  stays : (s : StateSet) (k : ℕ) (joins : Bool) → Decides joins ((Has s k → ⊥) × Enters h s k) → joins ≡ false → Enters h s k → Has s k
  stays s k joins says not enters = grind (arith, in_decides s k)

  module _ (s : StateSet) (k : ℕ) (s' : StateSet) (found : Bool) (w : Widens h s k s' found) (here : k < h.rows.states) where
    pub widens_out : (joins : Bool) → Decides joins ((Has s' k → ⊥) × Enters h s' k) → joins ≡ false → Widens h s (k + 1) s' found
    widens_out joins says not = record {
      sound = w.sound;
      settled = λ e. below_more (λ q. Enters h s' q → Has s' q) k (w.settled e) (stays s' k joins says not);
      fewer = w.fewer;
    }

    pub widens_in : (joins : Bool) → Decides joins ((Has s' k → ⊥) × Enters h s' k) → joins ≡ true → Widens h s (k + 1) (inserted s' k) true
    widens_in joins says is = record {
      sound = record {
        whole = whole_inserted s' w.sound.whole k;
        closes = λ q m. grind (arith, (has_inserted s' w.sound.whole k q).0 m, w.sound.closes q, enters_closes k s' (λ t mt. (w.sound.closes t mt).1) (says.0 is).1);
        marked = λ q l e. added q (w.sound.marked q l e);
      };
      settled = λ e. absurd (true≢false e);
      fewer = omega (arith, w.fewer, less);
    }
      where
        added : (q : ℕ) → Has s' q → Has (inserted s' k) q
        added q m = (has_inserted s' w.sound.whole k q).1 (inr m)

        less : missing h.rows.states (inserted s' k) < missing h.rows.states s'
        less = missing_less s' (inserted s' k) added h.rows.states k here (says.0 is).0 ((has_inserted s' w.sound.whole k k).1 (inl (omega (arith, here, h.few), refl)))

  -- ---- the end of the rounds

  pub closing_all : (s s' : StateSet) (found : Bool) → Widens h s h.rows.states s' found → found ≡ false → Closing h s'
  closing_all s s' found w not = record { closes = w.sound.closes; every = λ stays q l c. every stays c.0 q l c.1 c.2 c.3 }
    where
      every : Inside h → (v : List ℕ) (q : ℕ) → q < h.rows.states → Columns h.rows.places v → OnlyBit h.hidden.set v → a.accepts (run a.step q v) ≡ true → Has s' q
      every stays [] q l cs only is = w.sound.marked q l is
      every stays (c ∷ v) q l cs only is =
          let next = every stays v (a.step q c) (stays q c l cs.0) cs.1 only.1 is in
          w.settled not q l (⊎_elim
          (λ e. inl (subst (λ x. Has s' (a.step q x)) (e ∙ zero_off h.hidden.set) next))
          (λ e. inr (subst (λ x. Has s' (a.step q x)) e next))
          (turned_either h.hidden.set c 0 only.0))
