-- The rows that tests judge are tables: by the first word of each state, and a word that tells two states apart.
use Rattle.std.proofs.Common.{[], ◌∷◌, refl}
use Rattle.words.specs.TableOf.{TableOf, answers}
use Rattle.words.proofs.Tested.{table_listed}

pub within : TableOf 2 (answers 2 2 (0 ∷ 1 ∷ 0 ∷ 0 ∷ 1 ∷ 1 ∷ 1 ∷ 1 ∷ 1 ∷ 0 ∷ [])) (0 ∷ 1 ∷ 0 ∷ 0 ∷ 1 ∷ 1 ∷ 1 ∷ 1 ∷ 1 ∷ 0 ∷ []) 2
within = table_listed 2 2 _ ([] ∷ (1 ∷ []) ∷ []) ([] ∷ ([] ∷ []) ∷ []) refl

pub one_member : TableOf 1 (answers 1 3 (0 ∷ 1 ∷ 0 ∷ 1 ∷ 2 ∷ 1 ∷ 2 ∷ 2 ∷ 0 ∷ [])) (0 ∷ 1 ∷ 0 ∷ 1 ∷ 2 ∷ 1 ∷ 2 ∷ 2 ∷ 0 ∷ []) 3
one_member = table_listed 1 3 _ ([] ∷ (1 ∷ []) ∷ (1 ∷ 1 ∷ []) ∷ []) ([] ∷ ([] ∷ []) ∷ ((1 ∷ []) ∷ [] ∷ []) ∷ []) refl

pub successor : TableOf 2 (answers 2 4 (0 ∷ 1 ∷ 2 ∷ 2 ∷ 0 ∷ 2 ∷ 2 ∷ 3 ∷ 2 ∷ 0 ∷ 2 ∷ 2 ∷ 2 ∷ 2 ∷ 0 ∷ 3 ∷ 2 ∷ 2 ∷ 2 ∷ 1 ∷ []))
    (0 ∷ 1 ∷ 2 ∷ 2 ∷ 0 ∷ 2 ∷ 2 ∷ 3 ∷ 2 ∷ 0 ∷ 2 ∷ 2 ∷ 2 ∷ 2 ∷ 0 ∷ 3 ∷ 2 ∷ 2 ∷ 2 ∷ 1 ∷ []) 4
successor =
    table_listed 2 4 _ ([] ∷ (1 ∷ []) ∷ (2 ∷ []) ∷ (1 ∷ 2 ∷ []) ∷ [])
    ([] ∷ ((2 ∷ []) ∷ []) ∷ ((1 ∷ 2 ∷ []) ∷ (2 ∷ []) ∷ []) ∷ ([] ∷ [] ∷ [] ∷ []) ∷ []) refl

pub all : TableOf 3 (answers 3 1 (0 ∷ 0 ∷ 0 ∷ 0 ∷ 0 ∷ 0 ∷ 0 ∷ 0 ∷ 1 ∷ [])) (0 ∷ 0 ∷ 0 ∷ 0 ∷ 0 ∷ 0 ∷ 0 ∷ 0 ∷ 1 ∷ []) 1
all = table_listed 3 1 _ ([] ∷ []) [] refl

pub none : TableOf 1 (answers 1 1 (0 ∷ 0 ∷ 0 ∷ [])) (0 ∷ 0 ∷ 0 ∷ []) 1
none = table_listed 1 1 _ ([] ∷ []) [] refl
