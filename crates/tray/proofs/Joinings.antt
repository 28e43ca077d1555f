-- Two tables side by side: their joined answers.
use Rattle.std.proofs.Common.{◌≡◌, ℕ, ◌<◌, Bool, List, Decides, sym, ap, ◌∙◌, subst, ap₂, inl, inr}
use Rattle.std.proofs.lemmas.Bool.Decides.{Decides-and, Decides-or}
use Rattle.words.specs.Words.{Columns, coded}
use Rattle.words.specs.Automata.{Moves, SameReach, language, side_by_side}
use Rattle.words.specs.Rows.{written}
use Rattle.words.specs.declared.rows.Rows.{Rows}
use Rattle.words.specs.Residuals.{BySets, SamePair, Count}
use Rattle.words.specs.TableOf.{TableOf, answers}
use Rattle.words.proofs.Pairing.{count_same, pairs_same, same_pairs, pair_language}
use Rattle.tables.specs.Paired.{joined}
use Rattle.tables.specs.declared.pairs.Join.{Join}
use Rattle.tables.specs.declared.pairs.Join.TheVariants.{Both, Either}
use Rattle.tray.specs.Joined.{Joins}

-- two tests of words, joined
join_decides : (join : Join) (L M : List ℕ → Bool) (w : List ℕ) → Decides (joined join (L w) (M w)) (Joins join L M w)
join_decides Both L M w = Decides-and (L w) (M w) ((λ e. e), (λ e. e)) ((λ e. e), (λ e. e))
join_decides Either L M w = Decides-or (L w) (M w) ((λ e. e), (λ e. e)) ((λ e. e), (λ e. e))

-- the pairs of states of two tables over n sets
abbrev pub pairs_of : ℕ → Join → ℕ → List ℕ → ℕ → List ℕ → Moves (ℕ × ℕ)
pairs_of n join low lower up upper = side_by_side (written n low lower) (written n up upper) (joined join)

pub join_means : (n : ℕ) (join : Join) (low : ℕ) (lower : List ℕ) (up : ℕ) (upper : List ℕ) (w : List ℕ)
    → Decides (language (pairs_of n join low lower up upper) w) (Joins join (answers n low lower) (answers n up upper) w)
join_means n join low lower up upper w =
    subst (λ b. Decides b (Joins join (answers n low lower) (answers n up upper) w))
    (sym (pair_language (written n low lower) (written n up upper) (joined join) w)) (join_decides join (answers n low lower) (answers n up upper) w)

pub join_counts : (n : ℕ) (join : Join) (low : ℕ) (lower : List ℕ) (up : ℕ) (upper : List ℕ)
    → TableOf n (answers n low lower) lower low → TableOf n (answers n up upper) upper up
    → (k : ℕ) → Count n (SameReach (pairs_of n join low lower up upper)) k → Count n (SamePair n (answers n low lower) (answers n up upper)) k
join_counts n join low lower up upper t s k =
    let L : List ℕ → Bool = answers n low lower in
    let M : List ℕ → Bool = answers n up upper in
    count_same n (SameReach (pairs_of n join low lower up upper)) (SamePair n L M) k
    (pairs_same n L M lower low t upper up s (joined join)) (same_pairs n L M lower low t upper up s (joined join))

-- what depends only on the sets coded still does so when joined
pub joins_move : (n : ℕ) (join : Join) (L M : List ℕ → Bool) → BySets n L → BySets n M
    → (u w : List ℕ) → Columns n u → Columns n w → ((i : ℕ) → i < n → coded i u ≡ coded i w) → Joins join L M u → Joins join L M w
joins_move n Both L M l m u w cu cw e j = (sym (l u w cu cw e) ∙ j.0, sym (m u w cu cw e) ∙ j.1)
joins_move n Either L M l m u w cu cw e (inl j) = inl (sym (l u w cu cw e) ∙ j)
joins_move n Either L M l m u w cu cw e (inr j) = inr (sym (m u w cu cw e) ∙ j)

-- the pairs of states of two tables that rows are known to hold
written_known : (p n s size : ℕ) (cells rows : List ℕ) → p ≡ n → s ≡ size → cells ≡ rows → written p s cells ≡ written n size rows
written_known p n s size cells rows places states is =
    ap (λ x. written x s cells) places ∙ ap (λ x. written n x cells) states ∙ ap (written n size) is

pub pairs_known : (n : ℕ) (join : Join) (l u : Rows) (low : ℕ) (lower : List ℕ) (up : ℕ) (upper : List ℕ)
    → l.places ≡ n → l.states ≡ low → l.cells.now ≡ lower → u.places ≡ n → u.states ≡ up → u.cells.now ≡ upper
    → side_by_side (written l.places l.states l.cells.now) (written u.places u.states u.cells.now) (joined join) ≡ pairs_of n join low lower up upper
pairs_known n join l u low lower up upper lp ls lc up' us uc =
    ap₂ (λ a b. side_by_side a b (joined join))
    (written_known l.places n l.states low l.cells.now lower lp ls lc) (written_known u.places n u.states up u.cells.now upper up' us uc)
