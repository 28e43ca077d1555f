-- Merging by classes. A class is named by its lowest state. Each pass splits the classes by where one column leads; states
-- that no word tells apart are never split, and when no column splits anything, states of one class are not told apart.
use Rattle.std.proofs.Common.{◌≡◌, ℕ, zero, suc, ◌+◌, ◌-◌, ◌^◌, ◌<◌, ◌≤◌, ◌⊎◌, [], ◌∷◌, sym, refl, ap, ◌∙◌, subst, inl, inr, ⊎_elim, arith}
use Rattle.std.proofs.lemmas.Bool.{cases_lt, cases_order}
use Rattle.words.specs.Automata.{Automaton}
use Rattle.words.specs.Residuals.{SameFrom}

-- r is the lowest number with P
abbrev pub Lowest : (ℕ → Type 0) → ℕ → Type 0
Lowest P r = P r × ((u : ℕ) → u < r → P u → ⊥)

pub lowest_one : (P Q : ℕ → Type 0) (r q : ℕ) → Lowest P r → Lowest Q q → ((u : ℕ) → P u → Q u) → ((u : ℕ) → Q u → P u) → r ≡ q
lowest_one P Q r q hr hq to from = go (cases_order r q)
  where
    go : (r ≡ q) ⊎ ((r < q) ⊎ (q < r)) → r ≡ q
    go (inl e) = e
    go (inr (inl l)) = absurd (hq.1 r l (to r hr.0))
    go (inr (inr l)) = absurd (hr.1 q l (from q hq.0))

pub lowest_below : (P : ℕ → Type 0) (r s : ℕ) → Lowest P r → P s → r ≤ s
lowest_below P r s low h = ⊎_elim (λ l. absurd (low.1 s l h)) (λ l. l) (cases_lt s r)

-- t is in the class of s, and the column leads both to one class
abbrev pub Alike : (ℕ → ℕ → ℕ) → (ℕ → ℕ) → ℕ → ℕ → ℕ → Type 0
Alike step class c s t = (class t ≡ class s) × (class (step t c) ≡ class (step s c))

-- the classes of the states below met: each named by its lowest state; states that no word tells apart are in one class, and
-- a class has states of one mark
pub record Classes (n : ℕ) (a : Automaton) (met : ℕ) (class : ℕ → ℕ) : Type 0 where
  pub low : (s : ℕ) → s < met → class s ≤ s
  pub itself : (s : ℕ) → s < met → class (class s) ≡ class s
  pub keeps : (s t : ℕ) → s < met → t < met → SameFrom n a s t → class s ≡ class t
  pub marked : (s t : ℕ) → s < met → t < met → class s ≡ class t → a.accepts s ≡ a.accepts t

-- no state of a class is led by the column to another class than the rest
abbrev pub Stable : Automaton → ℕ → (ℕ → ℕ) → ℕ → Type 0
Stable a met class c = (s t : ℕ) → s < met → t < met → class s ≡ class t → class (a.step s c) ≡ class (a.step t c)

-- how far the classes are from one for each state: it falls with each split
abbrev pub slack : ℕ → (ℕ → ℕ) → ℕ
slack zero class = 0
slack (suc k) class = slack k class + (k - class k)

pub slack_falls : (k : ℕ) (class fresh : ℕ → ℕ) → ((s : ℕ) → s < k → class s ≤ fresh s) → slack k fresh ≤ slack k class
slack_falls zero class fresh up = omega arith
slack_falls (suc k) class fresh up =
    omega (arith, slack_falls k class fresh (λ s h. up s (omega arith)), up k (omega arith))

pub slack_less : (k : ℕ) (class fresh : ℕ → ℕ) → ((s : ℕ) → s < k → class s ≤ fresh s) → ((s : ℕ) → s < k → fresh s ≤ s)
    → (s : ℕ) → s < k → (fresh s ≡ class s → ⊥) → slack k fresh < slack k class
slack_less zero class fresh up low s h split = absurd (omega arith)
slack_less (suc k) class fresh up low s h split =
    ⊎_elim
    (λ l. omega (arith, slack_less k class fresh (λ u hu. up u (omega arith)) (λ u hu. low u (omega arith)) s l split, up k (omega arith)))
    (λ l. last (top l))
    (cases_lt s k)
  where
    top : k ≤ s → s ≡ k
    top l = omega arith

    last : s ≡ k → slack k fresh + (k - fresh k) < slack k class + (k - class k)
    last e =
        let apart : fresh k ≡ class k → ⊥ = subst (λ x. fresh x ≡ class x → ⊥) e split in
        omega (arith, apart, slack_falls k class fresh (λ u hu. up u (omega arith)), up k (omega arith), low k (omega arith))

-- ---- the first classes, by acceptance

module _ (n : ℕ) (a : Automaton) (met : ℕ) (class : ℕ → ℕ) (lowest : (s : ℕ) → s < met → Lowest (λ t. a.accepts t ≡ a.accepts s) (class s)) where
  marked_alike : (s t : ℕ) → s < met → t < met → a.accepts s ≡ a.accepts t → class s ≡ class t
  marked_alike s t hs ht e =
      lowest_one (λ u. a.accepts u ≡ a.accepts s) (λ u. a.accepts u ≡ a.accepts t) (class s) (class t) (lowest s hs) (lowest t ht)
      (λ u h. h ∙ e) (λ u h. h ∙ sym e)

  pub first_classes : Classes n a met class
  first_classes =
      let low : (s : ℕ) → s < met → class s ≤ s = λ s h. lowest_below (λ t. a.accepts t ≡ a.accepts s) (class s) s (lowest s h) refl in
      record {
        low = low;
        itself = λ s h. marked_alike (class s) s (omega (arith, low s h)) h (lowest s h).0;
        keeps = λ s t hs ht same. marked_alike s t hs ht (same [] tt);
        marked = λ s t hs ht e. sym (lowest s hs).0 ∙ ap a.accepts e ∙ (lowest t ht).0;
      }

-- ---- one pass

module _ (n : ℕ) (a : Automaton) (met : ℕ) (class fresh : ℕ → ℕ) (old : Classes n a met class) (c : ℕ) (small : c < 2 ^ n)
    (stays : (s : ℕ) → s < met → a.step s c < met)
    (lowest : (s : ℕ) → s < met → Lowest (Alike a.step class c s) (fresh s))
  where
    alike_same : (s t : ℕ) → s < met → t < met → Alike a.step class c s t → fresh s ≡ fresh t
    alike_same s t hs ht h =
        lowest_one (Alike a.step class c s) (Alike a.step class c t) (fresh s) (fresh t) (lowest s hs) (lowest t ht)
        (λ u x. (x.0 ∙ sym h.0, x.1 ∙ sym h.1)) (λ u x. (x.0 ∙ h.0, x.1 ∙ h.1))

    same_alike : (s t : ℕ) → s < met → t < met → fresh s ≡ fresh t → (class s ≡ class t) × (class (a.step s c) ≡ class (a.step t c))
    same_alike s t hs ht e =
        let x = (lowest s hs).0 in
        let y = (lowest t ht).0 in
        (sym x.0 ∙ ap class e ∙ y.0, sym x.1 ∙ ap (λ u. class (a.step u c)) e ∙ y.1)

    pub fresh_low : (s : ℕ) → s < met → fresh s ≤ s
    fresh_low s h = lowest_below (Alike a.step class c s) (fresh s) s (lowest s h) (refl, refl)

    -- a class is never joined again
    pub fresh_up : (s : ℕ) → s < met → class s ≤ fresh s
    fresh_up s h =
        let there : class (fresh s) ≡ class s = (lowest s h).0.0 in
        let below : fresh s < met = omega (arith, fresh_low s h) in
        omega (arith, there, old.low (fresh s) below)

    pub pass_classes : Classes n a met fresh
    pass_classes = record {
      low = fresh_low;
      itself = λ s h. sym (alike_same s (fresh s) h (omega (arith, fresh_low s h)) (lowest s h).0);
      keeps = λ s t hs ht same.
          alike_same s t hs ht (
            sym (old.keeps s t hs ht same),
            sym (old.keeps (a.step s c) (a.step t c) (stays s hs) (stays t ht) (λ v cs. same (c ∷ v) (small, cs))),
          );
      marked = λ s t hs ht e. old.marked s t hs ht (same_alike s t hs ht e).0;
    }

    -- where nothing was split, the column is stable
    pub pass_stable : ((s : ℕ) → s < met → fresh s ≡ class s) → Stable a met class c
    pass_stable none s t hs ht e = (same_alike s t hs ht (none s hs ∙ e ∙ sym (none t ht))).1

-- ---- the end: states of one class are not told apart

module _ (n : ℕ) (a : Automaton) (met : ℕ) (class : ℕ → ℕ) (classes : Classes n a met class)
    (stays : (s c : ℕ) → s < met → c < 2 ^ n → a.step s c < met)
    (stable : (c : ℕ) → c < 2 ^ n → Stable a met class c)
  where
    pub class_alike : (s t : ℕ) → s < met → t < met → class s ≡ class t → SameFrom n a s t
    class_alike s t hs ht e [] cs = classes.marked s t hs ht e
    class_alike s t hs ht e (c ∷ v) cs =
        class_alike (a.step s c) (a.step t c) (stays s c hs cs.0) (stays t c ht cs.0) (stable c cs.0 s t hs ht e) v cs.1
