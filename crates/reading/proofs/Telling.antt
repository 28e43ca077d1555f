-- The words that satisfy the whole formula of a claim are those that satisfy the claim.
use Rattle.std.proofs.Common.{◌≡◌, ℕ, ◌+◌, ◌^◌, ◌<◌, Bool, true, false, cond, ◌↔◌, List, [], ◌++◌, get_or, Option, Decides, sym, refl, ap, ◌∙◌, subst}
use Rattle.std.specs.Prelude.{All}
use Rattle.std.specs.Char.{is_ascii_lowercase}
use Rattle.std.proofs.lemmas.Bool.{cond-true, false≢true}
use Rattle.std.proofs.lemmas.Bool.Decides.{Decides-like}
use Rattle.std.proofs.lemmas.List.Elements.{All-cons, All-append, All-weaker}
use Rattle.words.specs.Automata.{Automaton}
use Rattle.words.specs.Formulas.{Truth, Tells}
use Rattle.words.specs.Meanings.{SameAfter}
use Rattle.words.specs.Relations.{Singleton}
use Rattle.words.specs.Residuals.{Count}
use Rattle.words.specs.Words.{Columns, coded}
use Rattle.words.proofs.Coding.{columns_append}
use Rattle.words.proofs.Pairing.{count_same}
use Rattle.tokens.specs.Items.{items_of}
use Rattle.tokens.specs.Numbering.{set_of}
use Rattle.grammar.specs.declared.step.Spot.{Spot}
use Rattle.grammar.specs.Claims.{Claim, atom, denial, and, or, implies, some, every, spelled, Fits, is_position, free}
use Rattle.reading.specs.Formulas.{formula_of, whole}
use Rattle.reading.specs.Judging.{SameEnds}
use Rattle.reading.specs.Meaning.{Meaning, Satisfied, WholeMeans}
use Rattle.reading.specs.Stepping.{Sure}
use Rattle.reading.proofs.Alone.{singleton_power, member_of, member_of_singleton}
use Rattle.reading.proofs.Free.{free_all}
use Rattle.reading.proofs.Lists.{all_joined}
use Rattle.reading.proofs.Numbering.{Known, letters_of, known}
use Rattle.reading.specs.MeaningLaws.{variables}
use Rattle.reading.proofs.Positions.{AloneBelow, positions_truth, sure_of_whole}
use Rattle.reading.proofs.Truths.{Agree, Agrees, truth_is_meaning}

-- every variable of a claim that fits has a set below n
pub fitting : (n k : ℕ) (f : Claim) → Fits n k f → All (λ x. x.set < n) (variables f)
fitting n k (atom at p spots) fits = fits.1
fitting n k (denial at f) fits = fitting n (k + 1) f fits.1
fitting n k (and at f g) fits = All-append (λ x. x.set < n) (variables f) (variables g) (fitting n (k + 1) f fits.1) (fitting n (k + 1) g fits.2)
fitting n k (or at f g) fits = All-append (λ x. x.set < n) (variables f) (variables g) (fitting n (k + 1) f fits.1) (fitting n (k + 1) g fits.2)
fitting n k (implies at f g) fits =
    All-append (λ x. x.set < n) (variables f) (variables g) (fitting n (k + 1) f fits.1) (fitting n (k + 1) g fits.2)
fitting n k (some at x f) fits = All-cons (λ y. y.set < n) x (variables f) fits.1 (fitting n (k + 1) f fits.2)
fitting n k (every at x f) fits = All-cons (λ y. y.set < n) x (variables f) fits.1 (fitting n (k + 1) f fits.2)

module _ (number name : ℕ → ℕ) (c : ℕ → ℕ) where
  -- what the letters stand for: a set letter its set, and a position the member of its set
  stands_for : ℕ → ℕ
  stands_for letter = cond (is_ascii_lowercase letter) (member_of (c (number letter))) (c (number letter))

  -- where the set of each position has one member, the letters stand for the sets
  agree_alone : (n : ℕ) (x : Spot) → Known number name x → x.set < n → AloneBelow n c x → Agree c stands_for x
  unfolding stands_for
  agree_alone n x known_x less one = go (is_position x) (λ e. one e less)
    where
      s : ℕ
      s = c (number x.letter)

      go : (t : Bool) → (t ≡ true → Singleton (c x.set)) → c x.set ≡ cond t (2 ^ cond t (member_of s) s) (cond t (member_of s) s)
      go true single = member_of_singleton (c x.set) (single refl) ∙ ap (λ i. 2 ^ member_of (c i)) known_x.0
      go false single = ap c known_x.0

  -- and the other way round
  alone_agree : (v : ℕ → ℕ) (n : ℕ) (x : Spot) → Agree c v x → AloneBelow n c x
  alone_agree v n x agree position less =
      let power : c x.set ≡ 2 ^ v x.letter = agree ∙ cond-true (is_position x) (2 ^ v x.letter) (v x.letter) position in
      subst Singleton (sym power) (singleton_power (v x.letter))

  module _ (holds : ℕ → List ℕ → Type 0) (n : ℕ) (f : Claim) (knows : All (Known number name) (variables f))
      (fits : All (λ x. x.set < n) (variables f)) (sure : Sure holds (whole n f)) where
    agrees_free : (v : ℕ → ℕ) → All (Agree c v) (free [] f) → Agrees number name [] f c v
    agrees_free v agree = (knows, agree, λ k d h none. absurd (false≢true none))

    meaning_of : Truth holds (whole n f) c → (v : ℕ → ℕ) × All (Agree c v) (free [] f) × Meaning holds f v
    meaning_of t =
        let parts = (positions_truth holds c n (free [] f) (formula_of f)).0 t in
        let at = all_joined (Known number name) (λ x. x.set < n) (λ x. Known number name x × (x.set < n)) (λ x k l. (k, l)) (variables f) knows fits in
        let agree = all_joined (λ x. Known number name x × (x.set < n)) (AloneBelow n c) (Agree c stands_for)
        (λ x h one. agree_alone n x h.0 h.1 one) (free [] f) (free_all (λ x. Known number name x × (x.set < n)) f [] at) parts.1 in (
          stands_for,
          agree,
          (truth_is_meaning holds number name f [] c stands_for (sure_of_whole holds n f sure) (agrees_free stands_for agree)).0 parts.0,
        )

    truth_of : (v : ℕ → ℕ) × All (Agree c v) (free [] f) × Meaning holds f v → Truth holds (whole n f) c
    truth_of m =
        (positions_truth holds c n (free [] f) (formula_of f)).1 (
          (truth_is_meaning holds number name f [] c m.0 (sure_of_whole holds n f sure) (agrees_free m.0 m.1)).1 m.2,
          All-weaker (Agree c m.0) (AloneBelow n c) (alone_agree m.0 n) (free [] f) m.1,
        )

-- The whole formula means what the claim means.
pub means : (numbered : List ℕ → Option ℕ) (a : ℕ → Automaton) (holds : ℕ → List ℕ → Type 0) (n : ℕ) (text : List ℕ) (f : Claim)
    → items_of numbered a text ≡ spelled f [] → Fits n 0 f → Sure holds (whole n f) → WholeMeans n holds f
means numbered a holds n text f spells fits sure w columns =
    let number : ℕ → ℕ = λ letter. set_of letter (letters_of text) in
    let name : ℕ → ℕ = λ set. get_or (letters_of text) set 0 in
    let c : ℕ → ℕ = λ i. coded i w in
    let knows = known numbered a text f spells in
    let small = fitting n 0 f fits in
    (meaning_of number name c holds n f knows small sure, truth_of number name c holds n f knows small sure)

module _ (n : ℕ) (holds : ℕ → List ℕ → Type 0) (f : Claim) (same : WholeMeans n holds f) where
  -- The table of the whole formula accepts the words that code sets which satisfy the claim.
  pub table_means : (L : List ℕ → Bool) → Tells n holds (whole n f) L → (w : List ℕ) → Columns n w → Decides (L w) (Satisfied holds f w)
  table_means L tells w columns = Decides-like (L w) (same w columns).0 (same w columns).1 (tells w columns)

  -- a word that completes two others to words of the formula completes them to words of the claim
  pub same_residuals : (u w : List ℕ) → Columns n u → Columns n w → SameAfter n holds (whole n f) u w ↔ SameEnds n (Satisfied holds f) u w
  same_residuals u w cu cw = (
    (λ after v cv.
        let here = same (u ++ v) (columns_append n u v cu cv) in
        let there = same (w ++ v) (columns_append n w v cw cv) in
        ((λ s. there.0 ((after v cv).0 (here.1 s))), (λ s. here.0 ((after v cv).1 (there.1 s))))),
    (λ ends v cv.
        let here = same (u ++ v) (columns_append n u v cu cv) in
        let there = same (w ++ v) (columns_append n w v cw cv) in
        ((λ t. there.1 ((ends v cv).0 (here.0 t))), (λ t. here.1 ((ends v cv).1 (there.0 t))))),
  )

  pub residual_count : (k : ℕ) → Count n (SameAfter n holds (whole n f)) k → Count n (SameEnds n (Satisfied holds f)) k
  residual_count k =
      count_same n (SameAfter n holds (whole n f)) (SameEnds n (Satisfied holds f)) k (λ u w cu cw. (same_residuals u w cu cw).0)
      (λ u w cu cw. (same_residuals u w cu cw).1)
