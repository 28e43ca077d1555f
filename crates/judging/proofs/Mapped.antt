-- What `find_map` over a range gives, said of the numbers in it.
use Rattle.std.proofs.Common.{◌≡◌, ℕ, ◌+◌, ◌-◌, ◌<◌, ◌≤◌, Some, None, Option, MatchOption, IsTrue, subst, arith}
use denote.Param.Members.{Mut}
use Rattle.std.specs.Fn.{Called}
use Rattle.std.specs.declared.ops.Range.{Range}
use Rattle.std.specs.Iterator.Runs.{Run, SomeRun, AllItemsGive, IsFirstToGive, CallKeepsClosure}
use Rattle.std.proofs.iter.Yields.{nat_range_steps}
use Rattle.std.proofs.iter.runs.Sources.{range_runs}

-- the k-th number that a range gave
at_place : (p : Run nat_range_steps) (k : ℕ) → k < p.len → p.at k ≡ Some (p.from.start + k)
at_place p k within = grind (arith, (range_runs p p.seen).3 k within)

module _ {F B : Type 0} {g : Mut F (ℕ × Unit {0}) (Option B)} (f : F) (keeps : CallKeepsClosure g f) (Yes : ℕ → B → Type 0) (No : ℕ → Type 0)
    (yes : (x : ℕ) (y : B) → Called g f (x, tt) (Some y) f → Yes x y) (no : (x : ℕ) → Called g f (x, tt) None f → No x)
  where
    -- no number from a to b serves, or y is what the first that serves gives
    abbrev First : ℕ → ℕ → Option B → Type 0
    First a b r =
        MatchOption r ((k : ℕ) → a ≤ k → k < b → No k) (λ y. (i : ℕ) × (a ≤ i) × (i < b) × Yes i y × ((k : ℕ) → a ≤ k → k < i → No k))

    -- what `find_map` ensures of a run
    abbrev Ran : Option B → Run nat_range_steps → Type 0
    Ran r p = MatchOption r (IsTrue p.whole × AllItemsGive p g f None) (λ y. (i : ℕ) × (i < p.len) × (p.len ≡ i + 1) × IsFirstToGive p g f (Some y) None i)

    found : (r : Option B) (p : Run nat_range_steps) → Ran r p → First p.from.start p.from.end r
    found None p (whole, none) = λ k low high.
        let i = k - p.from.start in
        grind (arith, (range_runs p p.seen).1 whole, at_place p i, none keeps i, no)
    found (Some y) p (i, left, long, first) = (
      p.from.start + i,
      omega arith,
      omega (arith, (range_runs p p.seen).0),
      grind (arith, at_place p i left, (first keeps).0, yes),
      λ k low high.
          let j = k - p.from.start in
          grind (arith, at_place p j, (first keeps).1 j, no),
    )

    pub first_from_find_map : (s : Range ℕ) (r : Option B) → SomeRun nat_range_steps s (Ran r) → First s.start s.end r
    first_from_find_map s r (p, from, ran) = subst (λ (t : Range ℕ). First t.start t.end r) from (found r p ran)
