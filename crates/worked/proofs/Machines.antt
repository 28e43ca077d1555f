-- Formulas of which few words have different residuals: machines with few states that know the residual of the word that was read.
use Rattle.std.proofs.Common.{◌≡◌, ℕ, zero, suc, ◌+◌, ◌*◌, ◌/◌, ◌%◌, ◌^◌, ◌<◌, ◌≤◌, ◌↔◌, Bool, true, List, [], ◌∷◌, ◌++◌, map, length, sym, refl, ap, ap₂, ◌∙◌, subst, arith}
use Rattle.std.proofs.Math.Nat.{div-lt_iff_lt-mul, mod-lt, div-eq_of_lt, mod-eq_of_lt, mul-add-div_right, mul-add-mod_self_right}
use Rattle.std.proofs.lemmas.List.{length-map}
use Rattle.words.specs.Words.{Columns, coded, sets}
use Rattle.words.specs.Automata.{Automaton, run, accepted}
use Rattle.words.specs.Formulas.{Formula, placed, single, negation, both, hidden, through, Satisfies}
use Rattle.words.specs.Meanings.{SameAfter}
use Rattle.words.specs.Residuals.{MoreThan}
use Rattle.words.proofs.Cells.{same_cell, cell_below}
use Rattle.words.proofs.Counts.{pigeons}
use Rattle.words.proofs.Placing.{through_below, through_columns, through_run, through_sets}
use Rattle.words.proofs.Runs.{run_append}
use Rattle.books.specs.Standard.{automaton, holds}
use Rattle.books.specs.StandardRule.{standard_rule}

-- A machine over n sets with k states.
pub record Machine (n k : ℕ) : Type 0 where
  pub start : ℕ
  pub step : ℕ → ℕ → ℕ
  pub starts : start < k
  pub steps : (s c : ℕ) → s < k → c < 2 ^ n → step s c < k

-- the state to which a word leads
abbrev pub led : {n k : ℕ} → Machine n k → List ℕ → ℕ
led m w = run m.step m.start w

pub stays : {n k : ℕ} (m : Machine n k) (w : List ℕ) → Columns n w → led m w < k
stays {n} {k} m w cs = from m.start m.starts w cs
  where
    from : (s : ℕ) → s < k → (v : List ℕ) → Columns n v → run m.step s v < k
    from s h [] cs = h
    from s h (c ∷ v) cs = from (m.step s c) (m.steps s c h cs.0) v cs.1

-- words that lead to one state are the same
abbrev pub Knows : {n k : ℕ} → Machine n k → (List ℕ → List ℕ → Type 0) → Type 0
Knows {n} m Same = (u w : List ℕ) → Columns n u → Columns n w → led m u ≡ led m w → Same u w

-- then there are no more words than states
pub no_more : {n k : ℕ} (m : Machine n k) (Same : List ℕ → List ℕ → Type 0) → Knows m Same → (b : ℕ) → k ≤ b → MoreThan n Same b → ⊥
no_more {n} {k} m Same knows b few more =
    pigeons b (λ j. led m (more.word j))
    (λ j h. let there = stays m (more.word j) (more.columns j (omega arith)) in omega arith)
    (λ i j hi hj e.
    more.different i j (omega arith) (omega arith)
    (knows (more.word i) (more.word j) (more.columns i (omega arith)) (more.columns j (omega arith)) e))

-- ---- a predicate of the standard book on listed sets

module _ (n p : ℕ) (listed : List ℕ) (there : p < 6) (fits : length listed ≡ (automaton p).places) where
  pub reader : Machine n (automaton p).states
  reader = record {
    start = (automaton p).start;
    step = λ s c. (automaton p).step s (through listed c);
    starts = (standard_rule.recognizes p there).start;
    steps = λ s c h hc.
        (standard_rule.recognizes p there).step s (through listed c) h (subst (λ k. through listed c < 2 ^ k) fits (through_below listed c));
  }

  pub reads : (w : List ℕ) → led reader w ≡ run (automaton p).step (automaton p).start (map (through listed) w)
  unfolding reader
  reads w = through_run (automaton p).step listed (automaton p).start w

  -- the book's automaton accepts the listed sets exactly when they satisfy the formula
  means : (w : List ℕ) → (accepted (automaton p) (map (through listed) w) ≡ true) ↔ Satisfies holds (placed p listed) w
  means w =
      let decided = (standard_rule.recognizes p there).means (map (through listed) w)
      (subst (λ k. Columns k (map (through listed) w)) fits (through_columns listed w)) in
      let same : sets (automaton p).places (map (through listed) w) ≡ map (λ i. coded i w) listed =
      ap (λ k. sets k (map (through listed) w)) (sym fits) ∙ through_sets listed w in
      ((λ e. subst (holds p) same (decided.0 e)), (λ h. decided.1 (subst (holds p) (sym same) h)))

  pub reader_knows : Knows reader (SameAfter n holds (placed p listed))
  unfolding reader
  reader_knows u w cu cw e v cv =
      let a = means (u ++ v) in
      let b = means (w ++ v) in
      let ends : accepted (automaton p) (map (through listed) (u ++ v)) ≡ accepted (automaton p) (map (through listed) (w ++ v)) =
      ap (automaton p).accepts
      (sym (reads (u ++ v)) ∙ run_append reader.step reader.start u v ∙ ap (λ s. run reader.step s v) e
      ∙ sym (run_append reader.step reader.start w v) ∙ reads (w ++ v)) in
      ((λ h. b.0 (sym ends ∙ a.1 h)), (λ h. a.0 (ends ∙ b.1 h)))

-- ---- formulas made of others

-- a formula that every word satisfies has one residual
pub idle : (n : ℕ) → Machine n 1
idle n = record { start = 0; step = λ s c. 0; starts = omega arith; steps = λ s c h hc. omega arith }

pub always_known : (n : ℕ) (f : Formula) → ((w : List ℕ) → Satisfies holds f w) → Knows (idle n) (SameAfter n holds f)
always_known n f always u w cu cw e v cv = ((λ _. always (w ++ v)), (λ _. always (u ++ v)))

-- the residuals of a negation are those of what is negated
pub negation_known : {n k : ℕ} (m : Machine n k) (f : Formula) → Knows m (SameAfter n holds f) → Knows m (SameAfter n holds (negation f))
negation_known m f knows u w cu cw e v cv =
    let same = knows u w cu cw e v cv in
    ((λ none h. none (same.1 h)), (λ none h. none (same.0 h)))

-- two machines side by side: a pair of states is one number
module _ {n k l : ℕ} (left : Machine n k) (right : Machine n l) where
  pub pairs : Machine n (k * l)
  pairs = record {
    start = left.start * l + right.start;
    step = λ s c. left.step (s / l) c * l + right.step (s % l) c;
    starts = cell_below l k left.start right.start left.starts right.starts;
    steps = λ s c h hc.
        let some_right : 0 < l = omega (arith, right.starts) in
        cell_below l k (left.step (s / l) c) (right.step (s % l) c)
        (left.steps (s / l) c ((div-lt_iff_lt-mul some_right).1 h) hc) (right.steps (s % l) c (mod-lt s some_right) hc);
  }

  pub led_pairs : (w : List ℕ) → Columns n w → led pairs w ≡ led left w * l + led right w
  unfolding pairs
  led_pairs w cs = from left.start right.start left.starts right.starts w cs
    where
      from : (s t : ℕ) → s < k → t < l → (v : List ℕ) → Columns n v
          → run pairs.step (s * l + t) v ≡ run left.step s v * l + run right.step t v
      from s t hs ht [] cs = refl
      from s t hs ht (c ∷ v) cs =
          ap (λ x. run pairs.step x v)
          (ap₂ (λ a b. left.step a c * l + right.step b c) (quotient s t ht) (remainder s t ht))
          ∙ from (left.step s c) (right.step t c) (left.steps s c hs cs.0) (right.steps t c ht cs.0) v cs.1
        where
          quotient : (a b : ℕ) → b < l → (a * l + b) / l ≡ a
          quotient a b h = mul-add-div_right (omega (arith, h)) a b ∙ ap (λ x. a + x) (div-eq_of_lt h) ∙ omega arith

          remainder : (a b : ℕ) → b < l → (a * l + b) % l ≡ b
          remainder a b h = mul-add-mod_self_right a l b ∙ mod-eq_of_lt h

  -- they know what both know, and the residuals of what is true where both parts are
  pub pairs_know : (Same Other : List ℕ → List ℕ → Type 0) → Knows left Same → Knows right Other → Knows pairs (λ u w. Same u w × Other u w)
  pairs_know Same Other one other u w cu cw e =
      let both = same_cell l (led left u) (led right u) (led left w) (led right w) (stays right u cu) (stays right w cw)
      (sym (led_pairs u cu) ∙ e ∙ led_pairs w cw) in
      (one u w cu cw both.0, other u w cu cw both.1)

pub both_known : {n k l : ℕ} (left : Machine n k) (right : Machine n l) (f g : Formula)
    → Knows left (SameAfter n holds f) → Knows right (SameAfter n holds g) → Knows (pairs left right) (SameAfter n holds (both f g))
both_known {n} left right f g one other u w cu cw e v cv =
    let same = pairs_know left right (SameAfter n holds f) (SameAfter n holds g) one other u w cu cw e in
    let a = same.0 v cv in
    let b = same.1 v cv in
    ((λ h. (a.0 h.0, b.0 h.1)), (λ h. (a.1 h.0, b.1 h.1)))
