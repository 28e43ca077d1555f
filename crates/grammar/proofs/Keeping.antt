-- Memory for steps that stays behind what is written.
use Rattle.std.proofs.Common.{◌≡◌, ℕ, ◌+◌, ◌-◌, ◌≤◌, List, ◌++◌, drop, sym, ap, ◌∙◌, arith}
use Rattle.std.proofs.lemmas.List.{append_assoc, length-append, drop-drop}
use Rattle.grammar.specs.declared.plan.Plan.{Plan}
use Rattle.grammar.specs.declared.step.Step.{Step}
use Rattle.grammar.specs.Steps.{Call}
use Rattle.grammar.specs.Written.{written, SameBehind, Writes}

module _ (k j : ℕ) (below : k ≤ j) where
  drop_later : (steps : List Step) → drop j steps ≡ drop (j - k) (drop k steps)
  drop_later steps = let e : j ≡ k + (j - k) = omega (arith, below) in ap (λ n. drop n steps) e ∙ sym (drop-drop (j - k) k steps)

  pub same_later : (old new : List Step) → SameBehind k old new → SameBehind j old new
  same_later old new same = record {
    long = same.long;
    behind = drop_later new ∙ ap (drop (j - k)) same.behind ∙ sym (drop_later old);
  }

pub same_then : (k : ℕ) (a b c : List Step) → SameBehind k a b → SameBehind k b c → SameBehind k a c
same_then k a b c first second = record { long = second.long ∙ first.long; behind = second.behind ∙ first.behind }

-- what is written behind what was written
pub writes_then : (p q r : Plan) (more more' : List (ℕ × Call)) → Writes p q more → Writes q r more' → Writes p r (more ++ more')
writes_then p q r more more' a b = (
  (
    b.0.0 ∙ ap (λ xs. xs ++ more') a.0.0 ∙ append_assoc (written p) more more',
    omega (arith, a.0.1, b.0.1, length-append more more'),
    same_then r.used p.steps.now q.steps.now r.steps.now (same_later q.used r.used (omega (arith, b.0.1)) p.steps.now q.steps.now a.0.2) b.0.2,
    b.0.3,
  ),
  b.1 ∙ a.1,
  b.2 ∙ a.2,
)
