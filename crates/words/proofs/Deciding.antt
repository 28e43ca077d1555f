-- An automaton decides a relation where each state has a meaning of its own: what its meaning says of the empty sets is
-- whether it accepts, and what it says of the sets that begin with a column is what the next state's says of the rests.
use Rattle.std.proofs.Common.{◌≡◌, ℕ, zero, suc, ◌^◌, ◌<◌, Bool, true, ◌&&◌, ◌↔◌, List, [], ◌∷◌, arith}
use Rattle.std.proofs.lemmas.Bool.{and_parts}
use Rattle.words.specs.Words.{Columns, sets}
use Rattle.words.specs.Automata.{run}

-- P of each number below k, as a tuple that begins with the lowest
abbrev pub Each : ℕ → (ℕ → Type 0) → Type 0
Each zero P = Unit {0}
Each (suc k) P = P 0 × Each k (λ j. P (suc j))

pub each : (k : ℕ) (P : ℕ → Type 0) → Each k P → (j : ℕ) → j < k → P j
each zero P all j h = absurd (omega arith)
each (suc k) P all zero h = all.0
each (suc k) P all (suc j) h = each k (λ i. P (suc i)) all.1 j (omega arith)

-- the test passes at each number below k
abbrev pub tests : ℕ → (ℕ → Bool) → Bool
tests zero f = true
tests (suc k) f = f 0 && tests k (λ j. f (suc j))

pub tested : (k : ℕ) (f : ℕ → Bool) → tests k f ≡ true → (j : ℕ) → j < k → f j ≡ true
tested zero f all j h = absurd (omega arith)
tested (suc k) f all zero h = (and_parts (f 0) (tests k (λ i. f (suc i))) all).0
tested (suc k) f all (suc j) h =
    tested k (λ i. f (suc i)) (and_parts (f 0) (tests k (λ i. f (suc i))) all).1 j (omega arith)

module _ (places states : ℕ) (step : ℕ → ℕ → ℕ) (accepts : ℕ → Bool) (Meaning : ℕ → List ℕ → Type 0)
    (stays : (s c : ℕ) → s < states → c < 2 ^ places → step s c < states)
    (ends : (s : ℕ) → s < states → (accepts s ≡ true) ↔ Meaning s (sets places []))
    (moves : (s c : ℕ) → s < states → c < 2 ^ places → (w : List ℕ) → Meaning s (sets places (c ∷ w)) ↔ Meaning (step s c) (sets places w))
  where
    pub run_means : (s : ℕ) → s < states → (w : List ℕ) → Columns places w → (accepts (run step s w) ≡ true) ↔ Meaning s (sets places w)
    run_means s h [] cs = ends s h
    run_means s h (c ∷ w) cs =
        let later = run_means (step s c) (stays s c h cs.0) w cs.1 in
        let now_here = moves s c h cs.0 w in
        ((λ a. now_here.1 (later.0 a)), (λ m. later.1 (now_here.0 m)))
