-- Rows that passed the checks of seal keep what a loaded book keeps true, also where they were copied.
use Rattle.std.proofs.Common.{◌≡◌, ℕ, zero, suc, ◌+◌, ◌*◌, ◌^◌, ◌<◌, ◌≤◌, List, [], ◌∷◌, ◌++◌, length, take, drop, get_or, sym, ap, ◌∙◌, subst, ⊎_elim, pow_pos, arith}
use Rattle.std.proofs.lemmas.Bool.{cases_eq, cases_lt}
use Rattle.std.proofs.lemmas.List.{get_or-take, take_at}
use Rattle.words.specs.Rows.{width, next_of, mark_of}
use Rattle.words.proofs.Copies.{copied_next, copied_mark}
use Rattle.books.specs.Names.{Letters, IsName}
use Rattle.tray.specs.Checks.{AllPass}
use Rattle.loading.specs.declared.draft.Draft.{Draft}
use Rattle.loading.specs.Drafts.{seal_checks}

-- what is not no name is one
letters_stable : (bytes : List ℕ) → ((Letters bytes → ⊥) → ⊥) → Letters bytes
letters_stable [] nn = tt
letters_stable (b ∷ bytes) nn = (
  ⊎_elim (λ l. absurd (nn (λ x. omega (arith, l, x.0)))) (λ l. l) (cases_lt b 97),
  ⊎_elim (λ l. absurd (nn (λ x. omega (arith, l, x.1)))) (λ l. l) (cases_lt 122 b),
  letters_stable bytes (λ n. nn (λ x. n x.2)),
)

pub name_stable : (name : List ℕ) → ((IsName name → ⊥) → ⊥) → IsName name
name_stable name nn = (
  ⊎_elim (λ e. e) (λ other. absurd (nn (λ x. other x.0))) (cases_eq (length name) 3),
  letters_stable name (λ n. nn (λ x. n x.1)),
)

letter_at : (bytes : List ℕ) (i : ℕ) → Letters bytes → i < length bytes → (97 ≤ get_or bytes i 0) × (get_or bytes i 0 ≤ 122)
letter_at [] i all h = absurd (omega arith)
letter_at (b ∷ bytes) zero all h = (all.0, all.1)
letter_at (b ∷ bytes) (suc i) all h = letter_at bytes i all.2 (omega arith)

pub letters_at : (name : List ℕ) → IsName name → (i : ℕ) → i < 3 → (97 ≤ get_or name i 0) × (get_or name i 0 ≤ 122)
letters_at name is i h = letter_at name i is.1 (omega (arith, is.0))

module _ (d : Draft) (memory name cells : List ℕ) (pass : AllPass (seal_checks d memory name))
    (front : take (d.rows * width d.places) cells ≡ take (d.rows * width d.places) memory)
  where
    same : (x : ℕ) → x < d.rows * width d.places → get_or cells x 0 ≡ get_or memory x 0
    same x h =
        sym (get_or-take (d.rows * width d.places) cells x 0 h)
        ∙ ap (λ l. get_or l x 0) front
        ∙ get_or-take (d.rows * width d.places) memory x 0 h

    inside : (s c : ℕ) → s < d.rows → c < 2 ^ d.places → next_of d.places memory s c < d.rows
    inside s c hs hc = ⊎_elim (λ l. l) (λ l. absurd (pass.1.1.1.1.0 (s, hs, (c, (hc, l))))) (cases_lt (next_of d.places memory s c) d.rows)

    pub sealed_nexts : (s c : ℕ) → s < d.rows → c < 2 ^ d.places → next_of d.places cells s c < d.rows
    sealed_nexts s c hs hc = subst (λ x. x < d.rows) (sym (copied_next d.places d.rows memory cells same s c hs hc)) (inside s c hs hc)

    pub sealed_settled : (s : ℕ) → s < d.rows → mark_of d.places cells (next_of d.places cells s 0) ≡ mark_of d.places cells s
    sealed_settled s hs =
        let k : ℕ = d.places in
        let to : ℕ = next_of k memory s 0 in
        let stays : mark_of k memory s ≡ mark_of k memory to =
        ⊎_elim (λ e. e) (λ other. absurd (pass.1.1.1.1.1.0 (s, hs, other))) (cases_eq (mark_of k memory s) (mark_of k memory to)) in
        ap (mark_of k cells) (copied_next k d.rows memory cells same s 0 hs (pow_pos k))
        ∙ copied_mark k d.rows memory cells same to (inside s 0 hs (pow_pos k))
        ∙ sym stays
        ∙ sym (copied_mark k d.rows memory cells same s hs)

-- what was put at the front is the front now
pub put_front : (xs ys zs : List ℕ) (m : ℕ) → ys ≡ take 0 xs ++ (zs ++ drop (0 + length zs) xs) → length zs ≡ m → take m ys ≡ zs
put_front xs ys zs m e long = ap (take m) e ∙ take_at zs (drop (0 + length zs) xs) m long
