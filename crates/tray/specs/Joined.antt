-- Two answers as one.
use Rattle.std.specs.Prelude.{◌≡◌, ℕ, Bool, true, ◌⊎◌, List}
use Rattle.tables.specs.declared.pairs.Join.{Join}
use Rattle.tables.specs.declared.pairs.Join.TheVariants.{Both, Either}

-- both tests accept the word, or one at least
abbrev pub Joins : Join → (List ℕ → Bool) → (List ℕ → Bool) → List ℕ → Type 0
Joins Both L M w = (L w ≡ true) × (M w ≡ true)
Joins Either L M w = (L w ≡ true) ⊎ (M w ≡ true)
