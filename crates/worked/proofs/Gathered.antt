-- Formulas with one set hidden: a machine that knows which states another one reaches by the words that differ in that set alone.
use Rattle.std.specs.Prelude.{◌⊎◌, List, [], ◌∷◌}
use Rattle.std.proofs.Common.{◌≡◌, ℕ, zero, suc, ◌+◌, ◌*◌, ◌^◌, ◌<◌, Bool, true, false, ◌&&◌, ◌||◌, eqb, sym, refl, ap, ◌∙◌, subst, inl, inr, ⊎_elim, pow-suc, arith}
use Rattle.std.proofs.lemmas.Bool.{and_parts, eqb-true, eq-eqb, false≢true}
use Rattle.words.specs.Words.{Columns}
use Rattle.words.specs.Sets.{bit}
use Rattle.words.specs.Automata.{run}
use Rattle.words.specs.Hiding.{turned, EqualBut, CollectsBy, SameBut}
use Rattle.words.proofs.Hiding.{turned_is, turned_there, turned_below}
use Rattle.words.proofs.Bits.{bit_small, bit_low, bit_high}
use Rattle.worked.proofs.Machines.{Machine, led, stays, Knows}

-- ---- sets of states as numbers

abbrev digit : Bool → ℕ
digit false = 0
digit true = 1

digit_small : (b : Bool) → digit b < 2
digit_small false = omega arith
digit_small true = omega arith

digit_one : (b : Bool) → digit b ≡ 1 → b ≡ true
digit_one true e = refl
digit_one false e = absurd (omega (arith, e))

-- the states below k that pass a test
abbrev set_of : ℕ → (ℕ → Bool) → ℕ
set_of zero f = 0
set_of (suc k) f = digit (f 0) + 2 * set_of k (λ s. f (suc s))

set_below : (k : ℕ) (f : ℕ → Bool) → set_of k f < 2 ^ k
set_below zero f = omega arith
set_below (suc k) f = omega (arith, digit_small (f 0), set_below k (λ s. f (suc s)), pow-suc 2 k)

set_bit : (k : ℕ) (f : ℕ → Bool) (s : ℕ) → s < k → bit s (set_of k f) ≡ digit (f s)
set_bit zero f s h = absurd (omega arith)
set_bit (suc k) f zero h = bit_low (digit (f 0)) (set_of k (λ s. f (suc s))) (digit_small (f 0))
set_bit (suc k) f (suc s) h =
    bit_high s (digit (f 0)) (set_of k (λ t. f (suc t))) (digit_small (f 0)) ∙ set_bit k (λ t. f (suc t)) s (omega arith)

-- some number below k passes a test
abbrev some_of : ℕ → (ℕ → Bool) → Bool
some_of zero f = false
some_of (suc k) f = f 0 || some_of k (λ j. f (suc j))

or_parts : (a b : Bool) → (a || b) ≡ true → (a ≡ true) ⊎ (b ≡ true)
or_parts true b e = inl refl
or_parts false b e = inr e

or_left : (a b : Bool) → a ≡ true → (a || b) ≡ true
or_left true b e = refl
or_left false b e = absurd (false≢true e)

or_right : (a b : Bool) → b ≡ true → (a || b) ≡ true
or_right true b e = refl
or_right false b e = e

and_both : (a b : Bool) → a ≡ true → b ≡ true → (a && b) ≡ true
and_both true b e h = h
and_both false b e h = absurd (false≢true e)

some_found : (k : ℕ) (f : ℕ → Bool) → some_of k f ≡ true → (j : ℕ) × (j < k) × (f j ≡ true)
some_found zero f e = absurd (false≢true e)
some_found (suc k) f e =
    ⊎_elim (λ here. (0, omega arith, here))
    (λ later. let r = some_found k (λ j. f (suc j)) later in (suc r.0, omega (arith, r.1), r.2))
    (or_parts (f 0) (some_of k (λ j. f (suc j))) e)

some_here : (k : ℕ) (f : ℕ → Bool) (j : ℕ) → j < k → f j ≡ true → some_of k f ≡ true
some_here zero f j h e = absurd (omega arith)
some_here (suc k) f zero h e = or_left (f 0) (some_of k (λ i. f (suc i))) e
some_here (suc k) f (suc j) h e = or_right (f 0) (some_of k (λ i. f (suc i))) (some_here k (λ i. f (suc i)) j (omega arith) e)

-- ---- the machine

module _ {n k : ℕ} (m : Machine n k) (i : ℕ) (inside : i < n) where
  -- a column leads a state of the set to t, with bit i turned to 0 or to 1
  abbrev leads : ℕ → ℕ → ℕ → ℕ → Bool
  leads x c t s = eqb (bit s x) 1 && (eqb (m.step s (turned i 0 c)) t || eqb (m.step s (turned i 1 c)) t)

  abbrev gathers : ℕ → ℕ → ℕ
  gathers x c = set_of k (λ t. some_of k (leads x c t))

  pub gathered : Machine n (2 ^ k)
  gathered = record {
    start = set_of k (λ s. eqb s m.start);
    step = gathers;
    starts = set_below k (λ s. eqb s m.start);
    steps = λ s c h hc. set_below k (λ t. some_of k (leads s c t));
  }

  -- a state of the set leads to t by a word that is equal to w but for bit i
  Reaches : ℕ → List ℕ → ℕ → Type 0
  Reaches x w t = (s : ℕ) × (s < k) × (bit s x ≡ 1) × (v : List ℕ) × Columns n v × EqualBut i v w × (run m.step s v ≡ t)

  -- one column of it
  led_by : (b : ℕ) → b < 2 → (x c s t : ℕ) (w : List ℕ) → c < 2 ^ n → s < k → bit s x ≡ 1 → (r : ℕ) → m.step s (turned i b c) ≡ r
      → (v : List ℕ) → Columns n v → EqualBut i v w → run m.step r v ≡ t → Reaches x (c ∷ w) t
  unfolding Reaches
  led_by b hb x c s t w hc hs is r e v cv same ends = (
    s,
    hs,
    is,
    turned i b c ∷ v,
    (turned_below n i b c hb inside hc, cv),
    (turned_there i b c hb, same),
    ap (λ y. run m.step y v) e ∙ ends,
  )

  forth : (w : List ℕ) (x t : ℕ) → Columns n w → t < k → bit t (run gathers x w) ≡ 1 → Reaches x w t
  unfolding Reaches
  forth [] x t cw ht e = (t, ht, e, [], tt, tt, refl)
  forth (c ∷ w) x t cw ht e =
      let later = forth w (gathers x c) t cw.1 ht e in
      let r : ℕ = later.0 in
      let found = some_found k (leads x c r)
      (digit_one (some_of k (leads x c r)) (sym (set_bit k (λ y. some_of k (leads x c y)) r later.1) ∙ later.2)) in
      let s : ℕ = found.0 in
      let parts = and_parts (eqb (bit s x) 1) (eqb (m.step s (turned i 0 c)) r || eqb (m.step s (turned i 1 c)) r) found.2 in
      ⊎_elim
      (λ zero_bit.
      led_by 0 (omega arith) x c s t w cw.0 found.1 (eqb-true (bit s x) 1 parts.0) r (eqb-true (m.step s (turned i 0 c)) r zero_bit)
      later.3 later.4 later.5 later.6)
      (λ one_bit.
      led_by 1 (omega arith) x c s t w cw.0 found.1 (eqb-true (bit s x) 1 parts.0) r (eqb-true (m.step s (turned i 1 c)) r one_bit)
      later.3 later.4 later.5 later.6)
      (or_parts (eqb (m.step s (turned i 0 c)) r) (eqb (m.step s (turned i 1 c)) r) parts.1)

  -- one of the two turned columns leads from s to t
  abbrev turns_to : ℕ → ℕ → ℕ → Bool
  turns_to c s t = eqb (m.step s (turned i 0 c)) t || eqb (m.step s (turned i 1 c)) t

  turns : (c d s b : ℕ) → b < 2 → d ≡ turned i b c → turns_to c s (m.step s d) ≡ true
  turns c d s zero hb same =
      or_left (eqb (m.step s (turned i 0 c)) (m.step s d)) (eqb (m.step s (turned i 1 c)) (m.step s d))
      (eq-eqb (m.step s (turned i 0 c)) (m.step s d) (ap (m.step s) (sym same)))
  turns c d s (suc zero) hb same =
      or_right (eqb (m.step s (turned i 0 c)) (m.step s d)) (eqb (m.step s (turned i 1 c)) (m.step s d))
      (eq-eqb (m.step s (turned i 1 c)) (m.step s d) (ap (m.step s) (sym same)))
  turns c d s (suc (suc b)) hb same = absurd (omega arith)

  -- a state of the set is followed by a column that is equal to c but for bit i
  follows : (x c d s : ℕ) → s < k → bit s x ≡ 1 → d < 2 ^ n → (b : ℕ) → b < 2 → d ≡ turned i b c → bit (m.step s d) (gathers x c) ≡ 1
  follows x c d s hs is hd b hb e =
      set_bit k (λ t. some_of k (leads x c t)) (m.step s d) (m.steps s d hs hd)
      ∙ ap digit
      (some_here k (leads x c (m.step s d)) s hs
      (and_both (eqb (bit s x) 1) (turns_to c s (m.step s d)) (eq-eqb (bit s x) 1 is) (turns c d s b hb e)))

  back : (w v : List ℕ) (x s : ℕ) → s < k → bit s x ≡ 1 → Columns n v → EqualBut i v w → bit (run m.step s v) (run gathers x w) ≡ 1
  back [] [] x s hs is cv same = is
  back [] (d ∷ v) x s hs is cv same = absurd same
  back (c ∷ w) [] x s hs is cv same = absurd same
  back (c ∷ w) (d ∷ v) x s hs is cv same =
      back w v (gathers x c) (m.step s d) (m.steps s d hs cv.0)
      (follows x c d s hs is cv.0 (bit i d) (bit_small i d) (turned_is i d c same.0)) cv.1 same.1

  collects : (Same : List ℕ → List ℕ → Type 0) → Knows m Same → (u w : List ℕ) → Columns n w → led gathered u ≡ led gathered w → CollectsBy n i Same u w
  unfolding Reaches gathered
  collects Same knows u w cw e x cx same =
      let t : ℕ = led m x in
      let ht : t < k = stays m x cx in
      let begun : bit m.start (set_of k (λ s. eqb s m.start)) ≡ 1 =
      set_bit k (λ s. eqb s m.start) m.start m.starts ∙ ap digit (eq-eqb m.start m.start refl) in
      let in_u = back u x (set_of k (λ s. eqb s m.start)) m.start m.starts begun cx same in
      let there = forth w (set_of k (λ s. eqb s m.start)) t cw ht (sym (ap (bit t) e) ∙ in_u) in
      let at_start : there.0 ≡ m.start =
      eqb-true there.0 m.start
      (digit_one (eqb there.0 m.start) (sym (set_bit k (λ s. eqb s m.start) there.0 there.1) ∙ there.2)) in (
        there.3,
        there.4,
        there.5,
        knows x there.3 cx there.4 (sym there.6 ∙ ap (λ s. run m.step s there.3) at_start),
      )

  pub gathered_knows : (Same : List ℕ → List ℕ → Type 0) → Knows m Same → Knows gathered (SameBut n i Same)
  gathered_knows Same knows u w cu cw e = (collects Same knows u w cw e, collects Same knows w u cu (sym e))
