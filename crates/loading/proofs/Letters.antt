-- Three bytes that are lower-case letters are a name.
use Rattle.std.proofs.Common.{◌≡◌, ℕ, suc, ◌<◌, ◌≤◌, List, [], ◌∷◌, length, get_or, arith}
use Rattle.books.specs.Names.{Letters, IsName}

letters_of : (bytes : List ℕ) → ((i : ℕ) → i < length bytes → (97 ≤ get_or bytes i 0) × (get_or bytes i 0 ≤ 122)) → Letters bytes
letters_of [] each = tt
letters_of (b ∷ bytes) each = ((each 0 (omega arith)).0, (each 0 (omega arith)).1, letters_of bytes (λ i h. each (suc i) (omega arith)))

pub is_name : (bytes : List ℕ) → length bytes ≡ 3 → ((i : ℕ) → i < 3 → (97 ≤ get_or bytes i 0) × (get_or bytes i 0 ≤ 122)) → IsName bytes
is_name bytes long each = (long, letters_of bytes (λ i h. each i (omega arith)))
