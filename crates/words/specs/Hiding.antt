-- Hiding a set: columns and words that differ from others only in the bit of that set.
use Rattle.std.specs.Prelude.{◌≡◌, ℕ, zero, suc, ◌+◌, ◌*◌, ◌/◌, ◌%◌, ◌<◌, Bool, true, List, [], ◌∷◌, ◌++◌, ◌≢◌}
use Rattle.words.specs.Sets.{bit}
use Rattle.words.specs.Words.{Columns, coded}
use Rattle.words.specs.Residuals.{SameResidual}

-- a column with b for its bit i
abbrev pub turned : ℕ → ℕ → ℕ → ℕ
turned zero b c = b + 2 * (c / 2)
turned (suc i) b c = c % 2 + 2 * turned i b (c / 2)

-- two columns that agree in all bits but i
abbrev pub AgreeBut : ℕ → ℕ → ℕ → Type 0
AgreeBut i c d = (j : ℕ) → (j ≢ i) → bit j c ≡ bit j d

-- two words of one length whose columns agree in all bits but i
abbrev pub EqualBut : ℕ → List ℕ → List ℕ → Type 0
EqualBut i [] [] = Unit {0}
EqualBut i [] (d ∷ w) = ⊥
EqualBut i (c ∷ u) [] = ⊥
EqualBut i (c ∷ u) (d ∷ w) = AgreeBut i c d × EqualBut i u w

-- a word whose columns have no bit but i
abbrev pub OnlyBit : ℕ → List ℕ → Type 0
OnlyBit i [] = Unit {0}
OnlyBit i (c ∷ v) = AgreeBut i c 0 × OnlyBit i v

-- some word of the language codes the same sets as w, but perhaps for set i: it may be longer than w
abbrev pub Hides : ℕ → ℕ → (List ℕ → Bool) → List ℕ → Type 0
Hides n i L w = (u : List ℕ) × Columns n u × ((j : ℕ) → j < n → (j ≢ i) → coded j u ≡ coded j w) × (L u ≡ true)

-- Some word that is equal to w but for bit i, followed by columns with no bit but i, is in the language. Of a language that
-- depends only on the sets coded, this is what `Hides` says.
abbrev pub HidesBit : ℕ → ℕ → (List ℕ → Bool) → List ℕ → Type 0
HidesBit n i L w = (x : List ℕ) × (v : List ℕ) × Columns n x × Columns n v × EqualBut i x w × OnlyBit i v × (L (x ++ v) ≡ true)

-- each word that is equal to u but for bit i is the same as a word that is equal to w but for bit i
abbrev pub CollectsBy : ℕ → ℕ → (List ℕ → List ℕ → Type 0) → List ℕ → List ℕ → Type 0
CollectsBy n i Same u w = (x : List ℕ) → Columns n x → EqualBut i x u → (y : List ℕ) × Columns n y × EqualBut i y w × Same x y

-- the words that are equal to u but for bit i, and those that are equal to w but for bit i, are the same up to a sameness
abbrev pub SameBut : ℕ → ℕ → (List ℕ → List ℕ → Type 0) → List ℕ → List ℕ → Type 0
SameBut n i Same u w = CollectsBy n i Same u w × CollectsBy n i Same w u

-- u and w have the same collection of residuals, taken over all words that are equal to them but for bit i
abbrev pub Collects : ℕ → ℕ → (List ℕ → Bool) → List ℕ → List ℕ → Type 0
Collects n i L = CollectsBy n i (SameResidual n L)

abbrev pub SameCollection : ℕ → ℕ → (List ℕ → Bool) → List ℕ → List ℕ → Type 0
SameCollection n i L = SameBut n i (SameResidual n L)
