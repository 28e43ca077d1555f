-- A name is three letters, and each is a lower-case one.
use Rattle.std.proofs.Common.{◌≡◌, ℕ, Bool, true, false, ◌&&◌, List, [], ◌∷◌, length, refl, ap, arith}
use Rattle.std.specs.List.{list_all}
use Rattle.std.specs.Char.{is_ascii_lowercase}
use Rattle.tokens.specs.Senses.{is_name}

and_true : (test : Bool) → (test && true) ≡ test
and_true true = refl
and_true false = refl

pub three_name : (bytes : List ℕ) → length bytes ≡ 3 → list_all is_ascii_lowercase bytes ≡ is_name bytes
three_name [] long = absurd (omega (arith, long))
three_name (a ∷ []) long = absurd (omega (arith, long))
three_name (a ∷ (b ∷ [])) long = absurd (omega (arith, long))
three_name (a ∷ (b ∷ (c ∷ []))) long = ap (λ t. is_ascii_lowercase a && (is_ascii_lowercase b && t)) (and_true (is_ascii_lowercase c))
three_name (a ∷ (b ∷ (c ∷ (d ∷ bytes)))) long = absurd (omega (arith, long))
