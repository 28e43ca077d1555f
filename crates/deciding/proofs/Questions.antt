-- Reading the two lines of a question.
use Rattle.std.proofs.Common.{◌≡◌, ℕ, ◌≤◌, Bool, true, false, cond, eqb, List, [], ◌∷◌, ◌++◌, map, length, get_or, codes, decimal, All, sym, refl, ap, ◌∙◌, subst, ⊎_elim, arith}
use Rattle.std.proofs.lemmas.List.Elements.{All-cons, All-nil}
use Rattle.saving.specs.TableText.{spaced, line_of}
use Rattle.loading.specs.Cutting.{cut}
use Rattle.loading.specs.Lines.{ReadsNumbers}
use Rattle.loading.proofs.LinesApart.{IsLine, line_from, cut_line}
use Rattle.loading.proofs.Printed.{tested_above, numbers_above}
use Rattle.calls.specs.declared.running.Settings.{Settings}
use Rattle.deciding.specs.Questions.{heading, Asks, OtherHeading, OtherValues}

-- what is cut off and what is left are the whole text
cut_either : (b : ℕ) (text : List ℕ) (x : Bool) → (cut text).0 ++ (cut text).1 ≡ text
    → (cond {A = List ℕ × List ℕ} x (b ∷ [], text) (b ∷ (cut text).0, (cut text).1)).0
    ++ (cond {A = List ℕ × List ℕ} x (b ∷ [], text) (b ∷ (cut text).0, (cut text).1)).1 ≡ b ∷ text
cut_either b text true h = refl
cut_either b text false h = ap (λ xs. b ∷ xs) h

cut_whole : (text : List ℕ) → (cut text).0 ++ (cut text).1 ≡ text
cut_whole [] = refl
cut_whole (b ∷ text) = cut_either b text (eqb b 10) (cut_whole text)

cuts_to : (text first rest : List ℕ) → (first, rest) ≡ cut text → text ≡ first ++ rest
cuts_to text first rest e = sym (cut_whole text) ∙ ap (λ p. p.0 ++ p.1) (sym e)

pub heading_is_line : IsLine heading
heading_is_line = line_from (codes "sets budget depth") (tested_above (codes "sets budget depth") refl)

pub values_line : (vs : List ℕ) → IsLine (line_of (map decimal vs))
values_line vs = line_from (spaced (map decimal vs)) (numbers_above vs)

-- a text that begins with a line is cut behind it
starts_with : (text first rest line more : List ℕ) → (first, rest) ≡ cut text → IsLine line → text ≡ line ++ more → (first ≡ line) × (rest ≡ more)
starts_with text first rest line more e is begins =
    let cuts : (first, rest) ≡ (line, more) = e ∙ ap cut begins ∙ cut_line line more is in
    (ap (λ p. p.0) cuts, ap (λ p. p.1) cuts)

-- three values
three : (xs : List ℕ) → length xs ≡ 3 → xs ≡ get_or xs 0 0 ∷ (get_or xs 1 0 ∷ (get_or xs 2 0 ∷ []))
three [] e = absurd (omega (arith, e))
three (a ∷ []) e = absurd (omega (arith, e))
three (a ∷ (b ∷ [])) e = absurd (omega (arith, e))
three (a ∷ (b ∷ (c ∷ []))) e = refl
three (a ∷ (b ∷ (c ∷ (d ∷ xs)))) e = absurd (omega (arith, e))

module _ (input first rest : List ℕ) (cuts : (first, rest) ≡ cut input) where
  pub other_heading : (first ≡ heading → ⊥) → OtherHeading input
  other_heading other more begins = other (starts_with input first rest heading more cuts heading_is_line begins).0

  module _ (is : first ≡ heading) (line text : List ℕ) (cuts' : (line, text) ≡ cut rest) where
    begins_so : input ≡ heading ++ rest
    begins_so = cuts_to input first rest cuts ∙ ap (λ l. l ++ rest) is

    pub other_values : (new : List ℕ) → ReadsNumbers line (0 ∷ 0 ∷ 0 ∷ []) new false → OtherValues input
    other_values new h = ((rest, begins_so), never)
      where
        never : (s : Settings) (more : List ℕ) → Asks input s more → ⊥
        never s more asks =
            let values : List ℕ = s.sets ∷ (s.budget ∷ (s.depth ∷ [])) in
            let behind = (starts_with input first rest heading (line_of (map decimal values) ++ more) cuts heading_is_line asks.0).1 in
            let same = (starts_with rest line text (line_of (map decimal values)) more cuts' (values_line values) behind).0 in
            let last = All-cons (λ v. v ≤ 65535) s.depth [] asks.3 (All-nil (λ v. v ≤ 65535)) in
            let small = All-cons (λ v. v ≤ 65535) s.sets (s.budget ∷ (s.depth ∷ [])) asks.1 (All-cons (λ v. v ≤ 65535) s.budget (s.depth ∷ []) asks.2 last) in
            ⊎_elim (λ many. omega (arith, many)) (λ none. none values refl small same) h.1

    pub asks_so : (new : List ℕ) (s : Settings) → ReadsNumbers line (0 ∷ 0 ∷ 0 ∷ []) new true → s.sets ≡ get_or new 0 0 → s.budget ≡ get_or new 1 0
        → s.depth ≡ get_or new 2 0 → Asks input s text
    asks_so new s h e f g =
        let values = s.sets ∷ s.budget ∷ s.depth ∷ [] in
        let are : new ≡ values = three new h.0 ∙ ap (λ v. v ∷ (get_or new 1 0 ∷ (get_or new 2 0 ∷ []))) (sym e)
        ∙ ap (λ v. s.sets ∷ (v ∷ (get_or new 2 0 ∷ []))) (sym f) ∙ ap (λ v. s.sets ∷ (s.budget ∷ (v ∷ []))) (sym g) in
        let lists : rest ≡ line_of (map decimal values) ++ text =
        cuts_to rest line text cuts' ∙ ap (λ l. l ++ text) (h.2 ∙ ap (λ vs. line_of (map decimal vs)) are) in
        let small : All (λ v. v ≤ 65535) values = subst (All (λ v. v ≤ 65535)) are h.1 in
        (begins_so ∙ ap (λ xs. heading ++ xs) lists, small 0 0 (omega arith), small 1 0 (omega arith), small 2 0 (omega arith))
