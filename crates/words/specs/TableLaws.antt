-- What the definitions of residuals, counts and tables come to, as statements. The function `laws_of_tables` carries their proofs.
use Rattle.std.specs.Prelude.{◌≡◌, ℕ, ◌^◌, ◌<◌, Bool, List}
use Rattle.words.specs.Words.{Columns}
use Rattle.words.specs.Rows.{next_of, mark_of}
use Rattle.words.specs.Residuals.{SameResidual, Count, MoreThan}
use Rattle.words.specs.TableOf.{TableOf, answers}

-- a language has not both exactly k residuals and more than k
abbrev pub ResidualsNeverBoth : Type 0
ResidualsNeverBoth = (n : ℕ) (L : List ℕ → Bool) (k : ℕ) → Count n (SameResidual n L) k → MoreThan n (SameResidual n L) k → ⊥

-- two counts of the residuals of a language are one
abbrev pub OneCount : Type 0
OneCount = (n : ℕ) (L : List ℕ → Bool) (j k : ℕ) → Count n (SameResidual n L) j → Count n (SameResidual n L) k → j ≡ k

-- the states of the table of a language are as many as its residuals
abbrev pub TableCounts : Type 0
TableCounts = (n : ℕ) (L : List ℕ → Bool) (rows : List ℕ) (size : ℕ) → TableOf n L rows size → Count n (SameResidual n L) size

-- two tables of one language are the same, row by row
abbrev pub TableUnique : Type 0
TableUnique = (n : ℕ) (L : List ℕ → Bool) (rows : List ℕ) (size : ℕ) (rows' : List ℕ) (size' : ℕ) → TableOf n L rows size → TableOf n L rows' size'
    → (size ≡ size')
    × ((j c : ℕ) → j < size → c < 2 ^ n → next_of n rows j c ≡ next_of n rows' j c)
    × ((j : ℕ) → j < size → mark_of n rows j ≡ mark_of n rows' j)

-- the table of a language accepts the words of the language
abbrev pub TableAnswers : Type 0
TableAnswers = (n : ℕ) (L : List ℕ → Bool) (rows : List ℕ) (size : ℕ) → TableOf n L rows size → (w : List ℕ) → Columns n w → answers n size rows w ≡ L w

-- and it is the table of the words that it accepts
abbrev pub TableIsItsOwn : Type 0
TableIsItsOwn = (n : ℕ) (L : List ℕ → Bool) (rows : List ℕ) (size : ℕ) → TableOf n L rows size → TableOf n (answers n size rows) rows size
