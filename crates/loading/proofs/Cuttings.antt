-- Cutting a text into lines, and a draft that takes them.
use Rattle.std.proofs.Common.{◌≡◌, ◌≢◌, ℕ, zero, suc, ◌+◌, ◌<◌, ◌≤◌, cond, Bool, true, false, eqb, List, [], ◌∷◌, ◌++◌, length, take, drop, get_or, Ok, refl, ap, ◌∙◌, subst, arith}
use Rattle.std.proofs.lemmas.Bool.{eq-eqb, ne_eqb, cond-true, cond-false}
use Rattle.loading.specs.declared.draft.Draft.{Draft}
use Rattle.loading.specs.Cutting.{cut, Cuts}
use Rattle.loading.specs.Drafts.{TakesRow}
use Rattle.loading.specs.Whole.{Takes}

-- the first byte ends the line, or the line goes on
cut_here : (b : ℕ) (text : List ℕ) → b ≡ 10 → cut (b ∷ text) ≡ (b ∷ [], text)
cut_here b text e = cond-true (eqb b 10) (b ∷ [], text) (b ∷ (cut text).0, (cut text).1) (eq-eqb b 10 e)

cut_there : (b : ℕ) (text : List ℕ) → b ≢ 10 → cut (b ∷ text) ≡ (b ∷ (cut text).0, (cut text).1)
cut_there b text other = cond-false (eqb b 10) (b ∷ [], text) (b ∷ (cut text).0, (cut text).1) (ne_eqb b 10 other)

pub cut_at : (text : List ℕ) (at : ℕ) → at < length text → get_or text at 0 ≡ 10 → ((j : ℕ) → j < at → get_or text j 0 ≢ 10)
    → cut text ≡ (take (at + 1) text, drop (at + 1) text)
cut_at [] at within is before = absurd (omega arith)
cut_at (b ∷ text) zero within is before = cut_here b text is
cut_at (b ∷ text) (suc at) within is before =
    cut_there b text (before 0 (omega arith))
    ∙ ap (λ x. (b ∷ x.0, x.1)) (cut_at text at (omega arith) is (λ j h. before (suc j) (omega arith)))
    ∙ ap (λ k. (take k (b ∷ text), drop k (b ∷ text))) (suc_comes at)
  where
    suc_comes : (k : ℕ) → suc (k + 1) ≡ suc k + 1
    suc_comes k = omega arith

pub cut_none : (text : List ℕ) → ((i : ℕ) → i < length text → get_or text i 0 ≢ 10) → cut text ≡ (text, [])
cut_none [] none = refl
cut_none (b ∷ text) none =
    cut_there b text (none 0 (omega arith)) ∙ ap (λ x. (b ∷ x.0, x.1)) (cut_none text (λ i h. none (suc i) (omega arith)))

-- what follows the first line is no longer than the text, and shorter where there is one
after_one : (b : ℕ) (text : List ℕ) (x : Bool) → length ((cut text).1) ≤ length text
    → length ((cond {A = List ℕ × List ℕ} x (b ∷ [], text) (b ∷ (cut text).0, (cut text).1)).1) < length (b ∷ text)
after_one b text true h = omega arith
after_one b text false h = omega (arith, h)

cut_not_longer : (text : List ℕ) → length ((cut text).1) ≤ length text
cut_not_longer [] = omega arith
cut_not_longer (b ∷ text) = omega (arith, after_one b text (eqb b 10) (cut_not_longer text))

pub cut_shorter : (text : List ℕ) → 0 < length text → length ((cut text).1) < length text
cut_shorter [] some = absurd (omega arith)
cut_shorter (b ∷ text) some = after_one b text (eqb b 10) (cut_not_longer text)

-- ---- one line more at the end

pub cuts_more : (text : List ℕ) (lines : List (List ℕ)) (rest : List ℕ) → Cuts text lines rest → rest ≢ []
    → Cuts text (lines ++ ((cut rest).0 ∷ [])) ((cut rest).1)
cuts_more text [] rest cuts some = (subst (λ t. t ≢ []) cuts some, ap (λ t. (cut t).0) cuts, ap (λ t. (cut t).1) cuts)
cuts_more text (line ∷ lines) rest cuts some = (cuts.0, cuts.1, cuts_more ((cut text).1) lines rest cuts.2 some)

pub takes_more : (d : Draft) (memory : List ℕ) (lines : List (List ℕ)) (e : Draft) (m : List ℕ) (line : List ℕ) (e' : Draft) (m' : List ℕ)
    → Takes d memory lines e m → TakesRow e m line e' m' (Ok tt) → Takes d memory (lines ++ (line ∷ [])) e' m'
takes_more d memory [] e m line e' m' taken row = (
  e',
  m',
  subst (λ x. TakesRow x memory line e' m' (Ok tt)) taken.0 (subst (λ x. TakesRow e x line e' m' (Ok tt)) taken.1 row),
  (refl, refl),
)
takes_more d memory (first ∷ lines) e m line e' m' taken row = (taken.0, taken.1, taken.2, takes_more taken.0 taken.1 lines e m line e' m' taken.3 row)

-- each line is a row
pub takes_rows : (d : Draft) (memory : List ℕ) (lines : List (List ℕ)) (e : Draft) (m : List ℕ) → Takes d memory lines e m → e.rows ≡ d.rows + length lines
takes_rows d memory [] e m taken = omega (arith, ap (λ (x : Draft). x.rows) taken.0)
takes_rows d memory (line ∷ lines) e m taken = omega (arith, takes_rows taken.0 taken.1 lines e m taken.3, taken.2.2)
