-- The rows that tests hide a set of are a table: by the first word of each state, and a word that tells two states apart.
use Rattle.std.proofs.Common.{List, ℕ, [], ◌∷◌, refl}
use Rattle.words.specs.TableOf.{TableOf, answers}
use Rattle.words.proofs.Tested.{table_listed}

abbrev rows : List ℕ
rows =
    0 ∷ 1 ∷ 1 ∷ 2 ∷ 1 ∷ 0 ∷ 0 ∷ 1 ∷ 1 ∷
    1 ∷ 1 ∷ 1 ∷ 1 ∷ 1 ∷ 1 ∷ 1 ∷ 1 ∷ 0 ∷
    1 ∷ 2 ∷ 2 ∷ 1 ∷ 0 ∷ 1 ∷ 1 ∷ 2 ∷ 0 ∷ []

pub sum : TableOf 3 (answers 3 3 rows) rows 3
sum = table_listed 3 3 rows ([] ∷ (1 ∷ []) ∷ (3 ∷ []) ∷ []) ([] ∷ ([] ∷ []) ∷ ([] ∷ (4 ∷ []) ∷ []) ∷ []) refl
