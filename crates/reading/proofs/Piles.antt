-- The steps of a claim put its formula on a pile, and each finds enough there.
use Rattle.std.proofs.Common.{◌≡◌, ℕ, zero, suc, ◌+◌, ◌-◌, ◌≤◌, Bool, true, false, cond, List, [], ◌∷◌, ◌++◌, map, Some, None, Option, refl, sym, ap, ◌∙◌, subst, arith}
use Rattle.std.proofs.lemmas.List.{append_assoc, append-nil}
use Rattle.words.specs.Formulas.{Formula, single, negation, both, hidden}
use Rattle.grammar.specs.declared.step.Spot.{Spot}
use Rattle.grammar.specs.Claims.{Claim, atom, denial, and, or, implies, some, every, is_position, free}
use Rattle.grammar.specs.Steps.{Call, place, single as single-call, negate, hide, both as both-call, either as either-call, alone, hiding, steps, first_free, alone_at, positions, all_steps}
use Rattle.reading.specs.Formulas.{lone, formula_of, lone_at, with_positions, whole}
use Rattle.reading.specs.Stepping.{takes, Enough, pile_after}

-- ---- what is on the pile

-- steps in two parts
split : (pile : List Formula) (a b more : List (ℕ × Call)) → pile_after pile ((a ++ b) ++ more) ≡ pile_after pile (a ++ (b ++ more))
split pile a b more = ap (pile_after pile) (append_assoc a b more)

hidden_pile : (position : Bool) (at i : ℕ) (f : Formula) (pile : List Formula) (more : List (ℕ × Call))
    → pile_after (f ∷ pile) ((cond position (alone at i) [] ++ (at, hide i) ∷ []) ++ more)
    ≡ pile_after (hidden i (cond position (both f (single i)) f) ∷ pile) more
hidden_pile true at i f pile more = refl
hidden_pile false at i f pile more = refl

hiding_pile : (at : ℕ) (x : Spot) (f : Formula) (pile : List Formula) (more : List (ℕ × Call))
    → pile_after (f ∷ pile) (hiding at x ++ more) ≡ pile_after (hidden x.set (lone x f) ∷ pile) more
hiding_pile at x = hidden_pile (is_position x) at x.set

pub steps_pile : (f : Claim) (pile : List Formula) (more : List (ℕ × Call)) → pile_after pile (steps f ++ more) ≡ pile_after (formula_of f ∷ pile) more
steps_pile (atom at p spots) pile more = refl
steps_pile (denial at f) pile more = split pile (steps f) ((at, negate) ∷ []) more ∙ steps_pile f pile ((at, negate) ∷ more)
steps_pile (and at f g) pile more =
    let last : List (ℕ × Call) = (at, both-call) ∷ [] in
    split pile (steps f) (steps g ++ last) more
    ∙ steps_pile f pile ((steps g ++ last) ++ more)
    ∙ split (formula_of f ∷ pile) (steps g) last more
    ∙ steps_pile g (formula_of f ∷ pile) ((at, both-call) ∷ more)
steps_pile (or at f g) pile more =
    let last : List (ℕ × Call) = (at, either-call) ∷ [] in
    split pile (steps f) (steps g ++ last) more
    ∙ steps_pile f pile ((steps g ++ last) ++ more)
    ∙ split (formula_of f ∷ pile) (steps g) last more
    ∙ steps_pile g (formula_of f ∷ pile) ((at, either-call) ∷ more)
steps_pile (implies at f g) pile more =
    let last : List (ℕ × Call) = (at, either-call) ∷ [] in
    let not_f : Formula = negation (formula_of f) in
    split pile (steps f) ((at, negate) ∷ (steps g ++ last)) more
    ∙ steps_pile f pile (((at, negate) ∷ (steps g ++ last)) ++ more)
    ∙ split (not_f ∷ pile) (steps g) last more
    ∙ steps_pile g (not_f ∷ pile) ((at, either-call) ∷ more)
steps_pile (some at x f) pile more =
    split pile (steps f) (hiding at x) more ∙ steps_pile f pile (hiding at x ++ more) ∙ hiding_pile at x (formula_of f) pile more
steps_pile (every at x f) pile more =
    let last : List (ℕ × Call) = (at, negate) ∷ [] in
    let not_f : Formula = negation (formula_of f) in
    split pile (steps f) ((at, negate) ∷ (hiding at x ++ last)) more
    ∙ steps_pile f pile (((at, negate) ∷ (hiding at x ++ last)) ++ more)
    ∙ split (not_f ∷ pile) (hiding at x) last more
    ∙ hiding_pile at x not_f pile ((at, negate) ∷ more)

alone_pile : (i : ℕ) (place : Option ℕ) (f : Formula) (pile : List Formula) (more : List (ℕ × Call))
    → pile_after (f ∷ pile) (alone_at i place ++ more) ≡ pile_after (lone_at i place f ∷ pile) more
alone_pile i (Some at) f pile more = refl
alone_pile i None f pile more = refl

positions_pile : (k : ℕ) (spots : List Spot) (f : Formula) (pile : List Formula) (more : List (ℕ × Call))
    → pile_after (f ∷ pile) (positions k spots ++ more) ≡ pile_after (with_positions k spots f ∷ pile) more
positions_pile zero spots f pile more = refl
positions_pile (suc i) spots f pile more =
    let last : List (ℕ × Call) = alone_at i (first_free i spots) in
    split (f ∷ pile) (positions i spots) last more
    ∙ positions_pile i spots f pile (last ++ more)
    ∙ alone_pile i (first_free i spots) (with_positions i spots f) pile more

-- the steps of a whole claim put its formula on an empty pile
pub whole_pile : (n : ℕ) (f : Claim) → pile_after [] (all_steps n f) ≡ whole n f ∷ []
whole_pile n f =
    let rest : List (ℕ × Call) = positions n (free [] f) in
    steps_pile f [] rest
    ∙ ap (pile_after (formula_of f ∷ [])) (sym (append-nil rest))
    ∙ positions_pile n (free [] f) (formula_of f) [] []

-- ---- enough on the pile

-- a step finds enough, and j formulas are on the pile behind it
one_enough : (k j : ℕ) (step : ℕ × Call) (more : List (ℕ × Call)) → takes step.1 ≤ k → k - takes step.1 + 1 ≡ j → Enough j more → Enough k (step ∷ more)
one_enough k j step more found is enough = (found, subst (λ m. Enough m more) (sym is) enough)

parts : (k : ℕ) (a b more : List (ℕ × Call)) → Enough k (a ++ (b ++ more)) → Enough k ((a ++ b) ++ more)
parts k a b more enough = subst (Enough k) (sym (append_assoc a b more)) enough

-- negate and hide leave as many as they find, both and either one fewer
negate_enough : (k at : ℕ) (more : List (ℕ × Call)) → Enough (k + 1) more → Enough (k + 1) ((at, negate) ∷ more)
negate_enough k at more = one_enough (k + 1) (k + 1) (at, negate) more (omega arith) (omega arith)

hide_enough : (k at i : ℕ) (more : List (ℕ × Call)) → Enough (k + 1) more → Enough (k + 1) ((at, hide i) ∷ more)
hide_enough k at i more = one_enough (k + 1) (k + 1) (at, hide i) more (omega arith) (omega arith)

both_enough : (k at : ℕ) (more : List (ℕ × Call)) → Enough (k + 1) more → Enough (k + 1 + 1) ((at, both-call) ∷ more)
both_enough k at more = one_enough (k + 1 + 1) (k + 1) (at, both-call) more (omega arith) (omega arith)

either_enough : (k at : ℕ) (more : List (ℕ × Call)) → Enough (k + 1) more → Enough (k + 1 + 1) ((at, either-call) ∷ more)
either_enough k at more = one_enough (k + 1 + 1) (k + 1) (at, either-call) more (omega arith) (omega arith)

alone_enough : (k at i : ℕ) (more : List (ℕ × Call)) → Enough (k + 1) more → Enough (k + 1) (alone at i ++ more)
alone_enough k at i more enough =
    one_enough (k + 1) (k + 1 + 1) (at, single-call i) ((at, both-call) ∷ more) (omega arith) (omega arith) (both_enough k at more enough)

hidden_enough : (position : Bool) (k at i : ℕ) (more : List (ℕ × Call)) → Enough (k + 1) more
    → Enough (k + 1) ((cond position (alone at i) [] ++ (at, hide i) ∷ []) ++ more)
hidden_enough true k at i more enough = alone_enough k at i ((at, hide i) ∷ more) (hide_enough k at i more enough)
hidden_enough false k at i more enough = hide_enough k at i more enough

hiding_enough : (k at : ℕ) (x : Spot) (more : List (ℕ × Call)) → Enough (k + 1) more → Enough (k + 1) (hiding at x ++ more)
hiding_enough k at x more = hidden_enough (is_position x) k at x.set more

pub steps_enough : (f : Claim) (k : ℕ) (more : List (ℕ × Call)) → Enough (k + 1) more → Enough k (steps f ++ more)
steps_enough (atom at p spots) k more enough =
    one_enough k (k + 1) (at, place p (map (λ x. x.set) spots)) more (omega arith) (omega arith) enough
steps_enough (denial at f) k more enough =
    parts k (steps f) ((at, negate) ∷ []) more (steps_enough f k ((at, negate) ∷ more) (negate_enough k at more enough))
steps_enough (and at f g) k more enough =
    let last : List (ℕ × Call) = (at, both-call) ∷ [] in
    parts k (steps f) (steps g ++ last) more
    (steps_enough f k ((steps g ++ last) ++ more)
    (parts (k + 1) (steps g) last more (steps_enough g (k + 1) ((at, both-call) ∷ more) (both_enough k at more enough))))
steps_enough (or at f g) k more enough =
    let last : List (ℕ × Call) = (at, either-call) ∷ [] in
    parts k (steps f) (steps g ++ last) more
    (steps_enough f k ((steps g ++ last) ++ more)
    (parts (k + 1) (steps g) last more (steps_enough g (k + 1) ((at, either-call) ∷ more) (either_enough k at more enough))))
steps_enough (implies at f g) k more enough =
    let last : List (ℕ × Call) = (at, either-call) ∷ [] in
    parts k (steps f) ((at, negate) ∷ (steps g ++ last)) more
    (steps_enough f k (((at, negate) ∷ (steps g ++ last)) ++ more)
    (negate_enough k at ((steps g ++ last) ++ more)
    (parts (k + 1) (steps g) last more (steps_enough g (k + 1) ((at, either-call) ∷ more) (either_enough k at more enough)))))
steps_enough (some at x f) k more enough =
    parts k (steps f) (hiding at x) more (steps_enough f k (hiding at x ++ more) (hiding_enough k at x more enough))
steps_enough (every at x f) k more enough =
    let last : List (ℕ × Call) = (at, negate) ∷ [] in
    parts k (steps f) ((at, negate) ∷ (hiding at x ++ last)) more
    (steps_enough f k (((at, negate) ∷ (hiding at x ++ last)) ++ more)
    (negate_enough k at ((hiding at x ++ last) ++ more)
    (parts (k + 1) (hiding at x) last more (hiding_enough k at x ((at, negate) ∷ more) (negate_enough k at more enough)))))

alone_at_enough : (k i : ℕ) (place : Option ℕ) (more : List (ℕ × Call)) → Enough (k + 1) more → Enough (k + 1) (alone_at i place ++ more)
alone_at_enough k i (Some at) more enough = alone_enough k at i more enough
alone_at_enough k i None more enough = enough

positions_enough : (n : ℕ) (spots : List Spot) (k : ℕ) (more : List (ℕ × Call)) → Enough (k + 1) more → Enough (k + 1) (positions n spots ++ more)
positions_enough zero spots k more enough = enough
positions_enough (suc i) spots k more enough =
    let last : List (ℕ × Call) = alone_at i (first_free i spots) in
    parts (k + 1) (positions i spots) last more
    (positions_enough i spots k (last ++ more) (alone_at_enough k i (first_free i spots) more enough))

-- each step of a whole claim finds enough
pub whole_enough : (n : ℕ) (f : Claim) → Enough 0 (all_steps n f)
whole_enough n f =
    let rest : List (ℕ × Call) = positions n (free [] f) in
    steps_enough f 0 rest (subst (Enough 1) (append-nil rest) (positions_enough n (free [] f) 0 [] tt))
