-- "Exactly one member" has three residuals: that of a word that gives the set no member, one member, and more.
use Rattle.std.proofs.Common.{◌≡◌, ℕ, zero, suc, ◌+◌, ◌*◌, ◌<◌, Bool, true, false, List, [], ◌∷◌, ◌++◌, replicate, sym, refl, ap, ◌∙◌, ap₂, arith, pow_pos}
use Rattle.std.proofs.lemmas.List.{append-nil, replicate_more}
use Rattle.std.proofs.lemmas.Bool.Decides.{same_from_decides}
use Rattle.words.specs.Words.{Columns}
use Rattle.words.specs.Automata.{run, accepted, language, reach}
use Rattle.words.specs.Formulas.{single, through}
use Rattle.words.specs.Hiding.{turned}
use Rattle.words.specs.Meanings.{SameAfter}
use Rattle.words.specs.Residuals.{Count}
use Rattle.words.proofs.Hiding.{turned_here, turned_below}
use Rattle.words.proofs.Placing.{through_below}
use Rattle.words.proofs.Runs.{run_append}
use Rattle.books.specs.StandardRule.{standard_rule}
use Rattle.tray.specs.Asked.{asked}
use Rattle.tray.proofs.Singles.{exactly, one_means}

-- the state of the standard book's `one` after a word read through set i, and whether it accepts
abbrev state : ℕ → List ℕ → ℕ
state i w = reach (asked exactly (i ∷ [])) w

abbrev one : ℕ → List ℕ → Bool
one i w = language (asked exactly (i ∷ [])) w

stays : (i s : ℕ) (w : List ℕ) → s < 3 → run (asked exactly (i ∷ [])).next s w < 3
stays i s [] h = h
stays i s (c ∷ w) h =
    stays i (exactly.step s (through (i ∷ []) c)) w ((standard_rule.recognizes 1 (omega arith)).step s (through (i ∷ []) c) h (through_below (i ∷ []) c))

-- words that lead to one state go on alike
goes_on : (i : ℕ) (u w v : List ℕ) → state i u ≡ state i w → one i (u ++ v) ≡ one i (w ++ v)
goes_on i u w v e =
    let next = (asked exactly (i ∷ [])).next in
    let start = (asked exactly (i ∷ [])).start in
    ap exactly.accepts (run_append next start u v ∙ ap (λ s. run next s v) e ∙ sym (run_append next start w v))

-- ---- words of k columns of set i alone, for k below 3

abbrev alone : ℕ → ℕ → List ℕ
alone i k = replicate k (turned i 1 0)

alone_columns : (n i k : ℕ) → i < n → Columns n (alone i k)
alone_columns n i zero h = tt
alone_columns n i (suc k) h = (turned_below n i 1 0 (omega arith) h (pow_pos n), alone_columns n i k h)

-- they are read as ones
alone_state : (i k s : ℕ) → run (asked exactly (i ∷ [])).next s (alone i k) ≡ run exactly.step s (replicate k 1)
alone_state i zero s = refl
alone_state i (suc k) s =
    let read : through (i ∷ []) (turned i 1 0) ≡ 1 = ap (λ b. b + 2 * 0) (turned_here i 1 0 (omega arith)) in
    alone_state i k (exactly.step s (through (i ∷ []) (turned i 1 0))) ∙ ap (λ c. run exactly.step (exactly.step s c) (replicate k 1)) read

-- the word of k columns leads to state k
alone_leads : (i k : ℕ) → k < 3 → state i (alone i k) ≡ k
alone_leads i zero h = refl
alone_leads i (suc zero) h = alone_state i 1 0
alone_leads i (suc (suc zero)) h = alone_state i 2 0
alone_leads i (suc (suc (suc k))) h = absurd (omega arith)

-- a state shows in whether it accepts, and whether the next one does
abbrev shown : Bool → Bool → ℕ
shown true b = 1
shown false true = 0
shown false false = 2

ones_shown : (k : ℕ) → k < 3 → shown (accepted exactly (replicate k 1)) (accepted exactly (replicate (k + 1) 1)) ≡ k
ones_shown zero h = refl
ones_shown (suc zero) h = refl
ones_shown (suc (suc zero)) h = refl
ones_shown (suc (suc (suc k))) h = absurd (omega arith)

alone_shown : (i k : ℕ) → k < 3 → shown (one i (alone i k)) (one i (alone i (k + 1))) ≡ k
alone_shown i k h = ap₂ (λ s t. shown (exactly.accepts s) (exactly.accepts t)) (alone_state i k 0) (alone_state i (k + 1) 0) ∙ ones_shown k h

-- ---- the count

module _ (n : ℕ) (holds : ℕ → List ℕ → Type 0) (i : ℕ) where
  -- words that lead to one state have the same residual
  after_state : (u w : List ℕ) → state i u ≡ state i w → SameAfter n holds (single i) u w
  after_state u w e v cv =
      let same = goes_on i u w v e in
      let a = one_means i (u ++ v) in
      let b = one_means i (w ++ v) in
      ((λ h. b.0 (sym same ∙ a.1 h)), (λ h. a.0 (same ∙ b.1 h)))

  -- words with the same residual are answered alike whatever follows
  answered : (u w v : List ℕ) → Columns n v → SameAfter n holds (single i) u w → one i (u ++ v) ≡ one i (w ++ v)
  answered u w v cv same =
      let s = same v cv in
      let a = one_means i (u ++ v) in
      same_from_decides (one i (u ++ v)) (one i (w ++ v)) ((λ e. s.0 (a.0 e)), (λ h. a.1 (s.1 h))) (one_means i (w ++ v))

  apart : (j k : ℕ) → i < n → j < 3 → k < 3 → SameAfter n holds (single i) (alone i j) (alone i k) → j ≡ k
  apart j k there hj hk same =
      let now = answered (alone i j) (alone i k) [] tt same in
      let next = answered (alone i j) (alone i k) (alone i 1) (alone_columns n i 1 there) same in
      sym (alone_shown i j hj)
      ∙ ap₂ shown
      (ap (one i) (sym (append-nil (alone i j))) ∙ now ∙ ap (one i) (append-nil (alone i k)))
      (ap (one i) (sym (replicate_more j (turned i 1 0))) ∙ next ∙ ap (one i) (replicate_more k (turned i 1 0)))
      ∙ alone_shown i k hk

  pub single_count : i < n → Count n (SameAfter n holds (single i)) 3
  single_count there = record {
    word = alone i;
    columns = λ k h. alone_columns n i k there;
    different = λ j k hj hk same. apart j k there hj hk same;
    every = λ w cs.
        let h : state i w < 3 = stays i 0 w (omega arith) in
        (state i w, h, after_state w (alone i (state i w)) (sym (alone_leads i (state i w) h)));
  }
