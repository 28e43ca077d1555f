-- A table of a tray with a set hidden.
use Rattle.std.proofs.Common.{◌≡◌, ℕ, ◌<◌, ◌≤◌, Bool, List, ◌++◌, length, drop, Ok, Err, Result, Decides, sym, refl, ap, ◌∙◌, subst}
use Rattle.std.proofs.Math.Seq.{drop-append_seam}
use Rattle.std.proofs.lemmas.Bool.Decides.{Decides-like}
use Rattle.words.specs.Described.{language_of}
use Rattle.words.specs.Words.{Columns, coded}
use Rattle.words.specs.Hiding.{Hides, HidesBit}
use Rattle.words.specs.Residuals.{BySets}
use Rattle.words.specs.declared.rows.Rows.{Rows}
use Rattle.words.proofs.Hiding.{bits_are_sets}
use Rattle.tables.specs.Room.{SameOwners}
use Rattle.tables.specs.Tabulated.{Enough}
use Rattle.tables.specs.declared.memory.Memory.{Memory}
use Rattle.tables.specs.declared.tabulation.Counts.{Counts}
use Rattle.tables.specs.declared.exploration.Unexplored.{Unexplored}
use Rattle.tables.specs.declared.exploration.Unexplored.TheVariants.{NoRoom, TooMany}
use Rattle.hiding.specs.HiddenTable.{Ready, TabulatesHidden}
use Rattle.hiding.specs.declared.state_set.StateSet.{StateSet}
use Rattle.tray.specs.Aside.{HiddenAside}

-- what was hidden lies behind the first slot of the work space; there was room
module _ (n budget : ℕ) (rows : Rows) (same_sets : rows.places ≡ n) (i : ℕ) (memory memory' : Memory StateSet) (same : SameOwners memory memory')
    (fresh fresh' : List ℕ)
    (ready : Enough n budget (length memory.records.now) (length memory.links.now) (length memory.rows.now) (length fresh) 0 × (i < n) × (rows.states ≤ 512))
  where
    there : Ready rows i budget memory fresh
    there =
        subst (λ p. Enough p budget (length memory.records.now) (length memory.links.now) (length memory.rows.now) (length fresh) 0 × (i < p) × (rows.states ≤ 512))
        (sym same_sets) ready

    hidden_here : (r : Result Counts Unexplored) → TabulatesHidden rows i budget memory fresh memory' fresh' r
        → HiddenAside rows.places budget (language_of rows) i fresh' r
    hidden_here (Ok t) found = (found.1, found.2, found.3, found.4, found.5)
    hidden_here (Err TooMany) found = (refl, found.1)
    hidden_here (Err NoRoom) found = absurd (found.0 there)

    pub hidden_aside : (front : List ℕ) (long : ℕ) (r : Result Counts Unexplored) → length front ≡ long
        → TabulatesHidden rows i budget memory fresh memory' fresh' r
        → HiddenAside n budget (language_of rows) i (drop long (front ++ fresh')) r
    hidden_aside front long r is found =
        let behind : drop long (front ++ fresh') ≡ fresh' = ap (λ x. drop x (front ++ fresh')) (sym is) ∙ drop-append_seam front fresh' in
        subst (λ f. HiddenAside n budget (language_of rows) i f r) (sym behind)
        (subst (λ p. HiddenAside p budget (language_of rows) i fresh' r) same_sets (hidden_here r found))

-- what depends only on the sets coded hides sets
pub hidden_sets : (n i : ℕ) (L : List ℕ → Bool) → BySets n L → (M : List ℕ → Bool) → ((w : List ℕ) → Columns n w → Decides (M w) (HidesBit n i L w))
    → (w : List ℕ) → Columns n w → Decides (M w) (Hides n i L w)
hidden_sets n i L by_sets M means w cw = Decides-like (M w) (bits_are_sets n i L by_sets w cw).0 (bits_are_sets n i L by_sets w cw).1 (means w cw)

-- a word that codes the same sets has the same words beside it
pub hides_move : (n i : ℕ) (L : List ℕ → Bool) (u w : List ℕ) → Columns n u → Columns n w → ((j : ℕ) → j < n → coded j u ≡ coded j w) → Hides n i L u → Hides n i L w
hides_move n i L u w cu cw same h = (h.0, h.1, (λ j l other. h.2 j l other ∙ same j l), h.3)
