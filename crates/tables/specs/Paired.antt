-- Two tables side by side, as a kind of state.
use Rattle.std.specs.Prelude.{ℕ, Bool, ◌&&◌, ◌||◌}
use Rattle.words.specs.Automata.{Moves, side_by_side}
use Rattle.words.specs.Described.{described}
use Rattle.tables.specs.declared.pairs.Pairs.{Pairs}
use Rattle.tables.specs.declared.pairs.Join.{Join}
use Rattle.tables.specs.declared.pairs.Join.TheVariants.{Both, Either}

-- the answer from two
abbrev pub joined : Join → Bool → Bool → Bool
joined Both x y = x && y
joined Either x y = x || y

abbrev pub paired : Pairs → Moves (ℕ × ℕ)
paired p = side_by_side (described p.lower) (described p.upper) (joined p.join)
