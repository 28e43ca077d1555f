-- The three layers that checks fall into, by their numbers.
use Rattle.std.specs.Prelude.{ℕ, cond, nat_lt, ◌||◌, ◌&&◌, ◌==◌}

-- layer 1 has numbers 9, 10, 16 and 17, layer 2 those from 11 to 15, and layer 3 the others
abbrev pub layer_of : ℕ → ℕ
layer_of k = cond ((k == 9) || ((k == 10) || ((k == 16) || (k == 17)))) 1 (cond (nat_lt 10 k && nat_lt k 16) 2 3)
