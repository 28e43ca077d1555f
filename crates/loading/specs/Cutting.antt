-- A text cut into lines.
use Rattle.std.specs.Prelude.{◌≡◌, ◌≢◌, ℕ, cond, List, [], ◌∷◌, ◌==◌}

-- the bytes up to the first byte 10, that byte included, and those that follow
abbrev pub cut : List ℕ → List ℕ × List ℕ
cut [] = ([], [])
cut (b ∷ text) = cond (b == 10) (b ∷ [], text) (b ∷ (cut text).0, (cut text).1)

-- lines that are cut from the front of a text one after another, and what is left of it
abbrev pub Cuts : List ℕ → List (List ℕ) → List ℕ → Type 0
Cuts text [] rest = rest ≡ text
Cuts text (line ∷ lines) rest = (text ≢ []) × (line ≡ (cut text).0) × Cuts ((cut text).1) lines rest
