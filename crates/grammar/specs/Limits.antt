-- The limits of a text.
use Rattle.std.specs.Prelude.{ℕ}

-- a formula stands inside so many others at most
abbrev pub most_around : ℕ
most_around = 32

-- so that this many are open at once: it and those around it
abbrev pub most_open : ℕ
most_open = 33

-- a text is read over so many sets at most
abbrev pub most_sets : ℕ
most_sets = 8
