-- What was explored and merged is the table of the language of the explored kind.
use Rattle.std.proofs.Common.{◌≡◌, ℕ, zero, suc, ◌^◌, ◌<◌, ◌≤◌, cond, ◌⊎◌, List, [], ◌∷◌, ◌++◌, sym, refl, ap, ◌∙◌, subst, inl, inr, arith}
use Rattle.std.proofs.lemmas.Bool.{cases_lt}
use Rattle.words.specs.Words.{Columns}
use Rattle.words.specs.Order.{NotLater, Precedes}
use Rattle.words.specs.Automata.{Moves, run, reach, language}
use Rattle.words.specs.Rows.{written}
use Rattle.words.specs.Residuals.{SameResidual}
use Rattle.words.specs.TableOf.{TableOf}
use Rattle.words.proofs.Orders.{chain}
use Rattle.words.proofs.Answering.{step_inside, accepts_inside}
use Rattle.words.proofs.Runs.{side, run_append, run_push}
use Rattle.tables.specs.Explored.{Explored, record_of, word_of}
use Rattle.tables.specs.Merged.{Merged}

module _ {S : Type 0} (m : Moves S) (n met : ℕ) (records : List S) (links raw : List ℕ) (e : Explored m n met records links raw) where
  -- within the explored states the written automaton goes as the kind does
  closed_rows : (s c : ℕ) → s < met → c < 2 ^ n → (written n met raw).step s c < met
  closed_rows s c hs hc = subst (λ x. x < met) (sym (step_inside n met raw s c hs hc)) (e.next s c hs hc).0

  accepts_is : (s : ℕ) → s < met → (written n met raw).accepts s ≡ m.final (record_of m records s)
  accepts_is s h = accepts_inside n met raw s (m.final (record_of m records s)) h (e.mark s h)

  beside : (v : List ℕ) (s : ℕ) → s < met → Columns n v
      → (run (written n met raw).step s v < met) × (record_of m records (run (written n met raw).step s v) ≡ run m.next (record_of m records s) v)
  beside =
      side n met (written n met raw).step m.next (record_of m records)
      (λ s c h hc. (closed_rows s c h hc, ap (record_of m records) (step_inside n met raw s c h hc) ∙ (e.next s c h hc).1))

  -- a word that leads to record s is completed as s is
  completes : (u : List ℕ) (s : ℕ) → s < met → reach m u ≡ record_of m records s → (v : List ℕ) → Columns n v
      → language m (u ++ v) ≡ (written n met raw).accepts (run (written n met raw).step s v)
  completes u s h is v cs =
      let there = beside v s h cs in
      ap m.final (run_append m.next m.start u v ∙ ap (λ x. run m.next x v) is ∙ sym there.1)
      ∙ sym (accepts_is (run (written n met raw).step s v) there.0)

  module _ (kept : ℕ) (out : List ℕ) (g : Merged n met raw kept out) where
    first : ℕ → List ℕ
    first k = word_of links (g.low k)

    leads : (k : ℕ) → k < kept → reach m (first k) ≡ record_of m records (g.low k)
    unfolding first
    leads k h = e.leads (g.low k) (g.low_met k h)

    -- a word has the residual of the state into which its record went
    residual : (u : List ℕ) (s : ℕ) → s < met → reach m u ≡ record_of m records s → SameResidual n (language m) u (first (g.into s))
    residual u s h is v cs =
        let k : ℕ = g.into s in
        let hk : k < kept = g.into_kept s h in
        completes u s h is v cs
        ∙ g.alike s (g.low k) h (g.low_met k hk) (sym (g.low_into k hk)) v cs
        ∙ sym (completes (first k) (g.low k) (g.low_met k hk) (leads k hk) v cs)

    told_apart : (i j : ℕ) → i < kept → j < kept → SameResidual n (language m) (first i) (first j) → i ≡ j
    told_apart i j hi hj same =
        sym (g.low_into i hi)
        ∙ g.apart (g.low i) (g.low j) (g.low_met i hi) (g.low_met j hj)
        (λ v cs. sym (completes (first i) (g.low i) (g.low_met i hi) (leads i hi) v cs) ∙ same v cs ∙ completes (first j) (g.low j) (g.low_met j hj) (leads j hj) v cs)
        ∙ g.low_into j hj

    not_later : (w : List ℕ) → Columns n w → (s : ℕ) → s < met → reach m w ≡ record_of m records s → NotLater (first (g.into s)) w
    unfolding first
    not_later w cs s h is = go (cases_lt (g.low (g.into s)) s) (e.earliest s h w cs is)
      where
        go : (g.low (g.into s) < s) ⊎ (s ≤ g.low (g.into s)) → NotLater (word_of links s) w → NotLater (word_of links (g.low (g.into s))) w
        go (inl l) (inl same) = inr (subst (Precedes (word_of links (g.low (g.into s)))) same (e.ordered (g.low (g.into s)) s l h))
        go (inl l) (inr p) = inr (chain (word_of links (g.low (g.into s))) (word_of links s) w (e.ordered (g.low (g.into s)) s l h) p)
        go (inr l) early =
            let same : s ≡ g.low (g.into s) = omega (arith, g.lowest s h) in
            subst (λ x. NotLater (word_of links x) w) same early

    zero_first : g.low 0 ≡ 0
    zero_first = go (g.into 0) refl
      where
        go : (k : ℕ) → g.into 0 ≡ k → g.low 0 ≡ 0
        go zero is = let l : g.low 0 ≤ 0 = subst (λ x. g.low x ≤ 0) is (g.lowest 0 e.some) in omega arith
        go (suc k) is =
            let up : g.low 0 < g.low (suc k) = g.rising 0 (suc k) (omega arith) (subst (λ x. x < kept) is (g.into_kept 0 e.some)) in
            let l : g.low (suc k) ≤ 0 = subst (λ x. g.low x ≤ 0) is (g.lowest 0 e.some) in
            absurd (omega arith)

    pub table_from : TableOf n (language m) out kept
    unfolding first
    table_from = record {
      first = first;
      some = omega (arith, g.into_kept 0 e.some);
      columns = λ k h. e.columns (g.low k) (g.low_met k h);
      start = ap (word_of links) zero_first;
      ordered = λ i j l h. e.ordered (g.low i) (g.low j) (g.rising i j l h) (g.low_met j h);
      different = told_apart;
      every = λ w cs.
          let x = e.every w cs in
          (g.into x.0, g.into_kept x.0 x.1, residual w x.0 x.1 x.2, not_later w cs x.0 x.1 x.2);
      next = λ k c hk hc.
          let s : ℕ = g.low k in
          let hs : s < met = g.low_met k hk in
          let t : ℕ = (written n met raw).step s c in
          let ht : t < met = closed_rows s c hs hc in
          let there : reach m (first k ++ c ∷ []) ≡ record_of m records t =
          run_push m.next m.start (first k) c ∙ ap (λ x. m.next x c) (leads k hk) ∙ sym (e.next s c hs hc).1 ∙ ap (record_of m records) (sym (step_inside n met raw s c hs hc)) in (
            subst (λ x. x < kept) (sym (g.next k c hk hc)) (g.into_kept t ht),
            subst (λ x. SameResidual n (language m) (first k ++ c ∷ []) (first x)) (sym (g.next k c hk hc)) (residual (first k ++ c ∷ []) t ht there),
          );
      mark = λ k hk.
          g.mark k hk
          ∙ ap (λ b. cond b 1 0) (accepts_is (g.low k) (g.low_met k hk) ∙ ap m.final (sym (leads k hk)));
    }
