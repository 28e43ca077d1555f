-- When an automaton that is written out in rows keeps the set rule: proofs, used where a book gives its rule.
use Rattle.std.specs.Prelude.{◌≡◌, ℕ, ◌^◌, ◌<◌, ◌≤◌, Bool, true, ◌&&◌, ltb, ◌↔◌, List, [], ◌∷◌, nat_lt}
use Rattle.std.proofs.Common.{⊎_elim}
use Rattle.std.proofs.lemmas.Bool.{ltb-true, le-ltb, and_left, and_right, cond-false}
use Rattle.words.specs.Words.{sets}
use Rattle.words.specs.Rows.{written}
use Rattle.words.proofs.Deciding.{Each, each, tests, tested, run_means}
use Rattle.books.specs.Rule.{Recognizes, Silent}

-- Outside of its rows it says 0 and no.
pub written_silent : (k n : ℕ) (rows : List ℕ) → Silent (written k n rows)
written_silent k n rows = record {
  step = λ s c out.
      cond-false (nat_lt s n && nat_lt c (2 ^ k)) _ _
      (⊎_elim (λ h. and_left (nat_lt s n) (nat_lt c (2 ^ k)) (le-ltb s n h)) (λ h. and_right (nat_lt s n) (nat_lt c (2 ^ k)) (le-ltb c (2 ^ k) h)) out);
  accepts = λ s h. and_left (nat_lt s n) _ (le-ltb s n h);
}

-- Every next state is below n, as a test that computes.
abbrev pub stays : ℕ → ℕ → List ℕ → Bool
stays k n rows = tests n (λ s. tests (2 ^ k) (λ c. ltb ((written k n rows).step s c) n))

-- Where each state has a meaning, which its row keeps, the automaton recognizes the meaning of state 0.
pub written_recognizes : (k n : ℕ) (rows : List ℕ) (Meaning : ℕ → List ℕ → Type 0)
    → (1 ≤ k) × (k ≤ 4) → (1 ≤ n) × (n ≤ 512) → stays k n rows ≡ true
    → Each n (λ s. ((written k n rows).accepts s ≡ true) ↔ Meaning s (sets k []))
    → Each n (λ s. Each (2 ^ k) (λ c. (w : List ℕ) → Meaning s (sets k (c ∷ w)) ↔ Meaning ((written k n rows).step s c) (sets k w)))
    → Recognizes (written k n rows) (Meaning 0)
written_recognizes k n rows Meaning few-places few-states stay ends moves = record {
  places = few-places;
  states = few-states;
  start = few-states.0;
  step = steps;
  means = run_means k n (written k n rows).step (written k n rows).accepts Meaning steps (each n _ ends)
      (λ s c hs hc. each (2 ^ k) _ (each n _ moves s hs) c hc) 0 few-states.0;
}
  where
    steps : (s c : ℕ) → s < n → c < 2 ^ k → (written k n rows).step s c < n
    steps s c hs hc = ltb-true ((written k n rows).step s c) n (tested (2 ^ k) _ (tested n _ stay s hs) c hc)
