-- Runs over words: one word after another, one column more, and a loop that runs an automaton over a word.
use Rattle.std.proofs.Common.{◌≡◌, ℕ, ◌+◌, ◌^◌, ◌<◌, ◌≤◌, List, [], ◌∷◌, ◌++◌, length, get_or, drop, sym, refl, ap, ◌∙◌, subst}
use Rattle.std.proofs.lemmas.List.{at_drop_more, at_drop_all, append-nil, append_assoc}
use Rattle.words.specs.Words.{Columns}
use Rattle.words.specs.Automata.{run}

-- an induction that takes a word's last column off
grow : (P : List ℕ → Type 0) → ((u : List ℕ) (c : ℕ) → P u → P (u ++ c ∷ [])) → (u w : List ℕ) → P u → P (u ++ w)
grow P step u [] h = subst P (sym (append-nil u)) h
grow P step u (c ∷ w) h = subst P (append_assoc u (c ∷ []) w) (grow P step (u ++ c ∷ []) w (step u c h))

pub snoc_ind : (P : List ℕ → Type 0) → P [] → ((u : List ℕ) (c : ℕ) → P u → P (u ++ c ∷ [])) → (w : List ℕ) → P w
snoc_ind P base step w = grow P step [] w base

pub run_append : {S : Type 0} (step : S → ℕ → S) (s : S) (u v : List ℕ) → run step s (u ++ v) ≡ run step (run step s u) v
run_append step s [] v = refl
run_append step s (c ∷ u) v = run_append step (step s c) u v

pub run_push : {S : Type 0} (step : S → ℕ → S) (s : S) (u : List ℕ) (c : ℕ) → run step s (u ++ c ∷ []) ≡ step (run step s u) c
run_push step s u c = run_append step s u (c ∷ [])

-- In a loop what is left of the word leads from the state at hand to where the run ends.
module _ (step : ℕ → ℕ → ℕ) (w : List ℕ) (i s : ℕ) where
  pub run_more : (t : ℕ) → i < length w → t ≡ step s (get_or w i 0) → run step t (drop (i + 1) w) ≡ run step s (drop i w)
  run_more t within next =
      ap (λ x. run step x (drop (i + 1) w)) next ∙ sym (at_drop_more (run step s) w i 0 within)

  pub run_all : length w ≤ i → run step s (drop i w) ≡ s
  run_all past = at_drop_all (run step s) w i past

-- Two automata side by side: where the steps of the first stay among its states and go as those of the second do, so do its runs.
module _ {S : Type 0} (n met : ℕ) (step : ℕ → ℕ → ℕ) (next : S → ℕ → S) (state : ℕ → S)
    (alike : (s c : ℕ) → s < met → c < 2 ^ n → (step s c < met) × (state (step s c) ≡ next (state s) c))
  where
    pub side : (w : List ℕ) (s : ℕ) → s < met → Columns n w → (run step s w < met) × (state (run step s w) ≡ run next (state s) w)
    side [] s h cs = (h, refl)
    side (c ∷ w) s h cs =
        let one_step = alike s c h cs.0 in
        let rest = side w (step s c) one_step.0 cs.1 in
        (rest.0, rest.1 ∙ ap (λ x. run next x w) one_step.1)
