-- One call: what the tray answered is what the pile owes.
use Rattle.std.proofs.Common.{◌≡◌, ℕ, ◌≤◌, List, [], ◌∷◌, ◌++◌, length, Ok, Err, Result, Decides, refl, sym, ap, subst}
use Rattle.words.specs.Words.{Columns}
use Rattle.words.specs.Automata.{Automaton}
use Rattle.words.specs.Formulas.{Formula, Names, Tells}
use Rattle.words.specs.Meanings.{SameAfter}
use Rattle.words.specs.Residuals.{Count, MoreThan}
use Rattle.tray.specs.Building.{Builds}
use Rattle.tray.specs.Checks.{FirstFailed, AllPass}
use Rattle.tray.specs.Refusals.{number_of}
use Rattle.tray.specs.View.{says}
use Rattle.tray.specs.declared.control.Control.{Control}
use Rattle.tray.specs.declared.refusal.Refusal.{Refusal}
use Rattle.calls.specs.declared.call.Call.{Call}
use Rattle.calls.specs.declared.call.Reply.{Reply}
use Rattle.calls.specs.Buffers.{Buffers}
use Rattle.calls.specs.Lent.{Lent}
use Rattle.calls.specs.Owed.{Terms, Desk, Owes, checks, over}
use Rattle.calls.specs.Pile.{Becomes, SameMet}
use Rattle.calls.specs.Promise.{TellEach, StandsFor, settings_of}
use Rattle.calls.specs.Replies.{built}
use Rattle.calls.proofs.Checking.{last_fails, last_passes, early_pass}
use Rattle.calls.proofs.Meaning.{count_after}
use Rattle.calls.proofs.Standing.{going, same_settings, stands_built}

-- what a building call comes to, where its formula f would lie on the rest of the pile
abbrev pub Outcome : Terms → (ℕ → List ℕ → Type 0) → List (ℕ × Type 0) → Formula → List Formula → Control → List ℕ → Control → List ℕ
    → Result (ℕ × ℕ) Refusal → Type 0
Outcome t holds these f rest c tables c' tables' (Ok counts) =
    AllPass these × Count t.sets (SameMet t.sets t.automaton holds f) counts.0 × Count t.sets (SameAfter t.sets holds f) counts.1
    × (counts.0 ≤ t.budget) × (settings_of c' ≡ settings_of c) × StandsFor holds c' tables' (f ∷ rest)
Outcome t holds these f rest c tables c' tables' (Err why) = FirstFailed these (number_of why) × (c' ≡ c) × (tables' ≡ tables)

-- a desk
abbrev pub desk : List Formula → Buffers → Desk
desk pile buffers = record { pile = pile; buffers = buffers }

-- what is owed after a call, and that the tray stands for what is left
abbrev pub Steps : Terms → (ℕ → List ℕ → Type 0) → List Formula → Buffers → Call → Reply → Control → Control → List ℕ → Buffers → Type 0
Steps t holds pile buffers call reply c c' tables' buffers' =
    (left : List Formula) × Owes t holds (desk pile buffers) call reply (desk left buffers') × (settings_of c' ≡ settings_of c)
    × StandsFor holds c' tables' left

module _ (t : Terms) (holds : ℕ → List ℕ → Type 0) (pile : List Formula) (buffers : Buffers) (call : Call) (c : Control) (tables : List ℕ) (c' : Control) (tables' : List ℕ)
    (stands : StandsFor holds c tables pile)
  where
    -- a refused call changes nothing
    pub refused_step : (why : Refusal) → FirstFailed (checks t holds (desk pile buffers) call) (number_of why) → c' ≡ c → tables' ≡ tables
        → Steps t holds pile buffers call (built (Err why)) c c' tables' buffers
    refused_step why failed same same' =
        (pile, (failed, refl), ap settings_of same, subst (λ x. StandsFor holds x tables' pile) (sym same) (subst (λ x. StandsFor holds c x pile) (sym same') stands))

    -- a building call
    pub built_step : (r : Result (ℕ × ℕ) Refusal) (f : Formula) (rest : List Formula)
        → (AllPass (checks t holds (desk pile buffers) call) → Becomes pile call (f ∷ rest))
        → Outcome t holds (checks t holds (desk pile buffers) call) f rest c tables c' tables' r → Steps t holds pile buffers call (built r) c c' tables' buffers
    built_step (Ok counts) f rest becomes h = (f ∷ rest, (h.0, refl, becomes h.0, f, rest, refl, h.1, h.2, h.3), h.4, h.5)
    built_step (Err why) f rest becomes h = refused_step why h.0 h.1 h.2

-- ---- from what the tray says of words to what is owed of formulas

module _ (lent : Lent) (size : ℕ) (a : ℕ → Automaton) (holds : ℕ → List ℕ → Type 0) (pile : List Formula) (call : Call)
    (c : Control) (tables : List ℕ) (c' : Control) (tables' : List ℕ) (early : ℕ → List (ℕ × Type 0)) (count : c.count ≡ length pile)
    (below : ℕ) (Same : List ℕ → List ℕ → Type 0) (Means : List ℕ → Type 0) (Many : Type 0)
  where
    -- the formula that the call makes, and the rest of the pile; how its words are the same for met
    pub outcome : (f : Formula) (rest : List Formula) → length rest ≡ below → TellEach c.sets holds (says c tables) rest
        → (AllPass (early c.count) → Names c.sets f)
        → (((w : List ℕ) → Columns c.sets w → Decides (says c' tables' below w) (Means w)) → Tells c.sets holds f (says c' tables' below))
        → ((met : ℕ) → Count c.sets Same met → Tells c.sets holds f (says c' tables' below) → AllPass (early c.count) → Count c.sets (SameMet c.sets a holds f) met)
        → (AllPass (early c.count) → Many → (g : Formula) × (others : List Formula) × Becomes pile call (g ∷ others) × MoreThan c.sets (SameMet c.sets a holds g) c.budget)
        → (AllPass (early c.count) → (g : Formula) × (others : List Formula) × Becomes pile call (g ∷ others) × MoreThan c.sets (SameMet c.sets a holds g) c.budget → Many)
        → (r : Result (ℕ × ℕ) Refusal) → Builds (early c.count ++ ((23, Many) ∷ [])) below Same Means c tables c' tables' r
        → Outcome (going c lent size a) holds (early (length pile) ++ over (going c lent size a) holds pile call) f rest c tables c' tables' r
    outcome f rest long told names means met to from (Ok counts) h =
        let b = h.1 in
        let pass = early_pass (early c.count) ((23, Many) ∷ []) h.0 in
        let tells = means b.means in
        let t = going c lent size a in (
          subst (λ k. AllPass (early k ++ over t holds pile call)) count (last_passes (early c.count) 23 Many _ from h.0),
          met counts.0 b.met_count tells pass,
          count_after c.sets holds f (says c' tables' below) tells counts.1 b.kept_count,
          b.met_few,
          same_settings c c' b.settings,
          stands_built holds c tables c' tables' below Same Means counts.0 counts.1 f rest b long told (names pass) tells,
        )
    outcome f rest long told names means met to from (Err why) h =
        let t = going c lent size a in
        (subst (λ k. FirstFailed (early k ++ over t holds pile call) (number_of why)) count (last_fails (early c.count) 23 Many _ (number_of why) to from h.0), h.1, h.2)

    -- a pile that is too short for the call
    pub short : (AllPass (early c.count) → ⊥) → (f : Formula) (rest : List Formula) (r : Result (ℕ × ℕ) Refusal)
        → Builds (early c.count ++ ((23, Many) ∷ [])) below Same Means c tables c' tables' r
        → Outcome (going c lent size a) holds (early (length pile) ++ over (going c lent size a) holds pile call) f rest c tables c' tables' r
    short fails f rest (Ok counts) h = absurd (fails (early_pass (early c.count) ((23, Many) ∷ []) h.0))
    short fails f rest (Err why) h =
        let t = going c lent size a in (
          subst (λ k. FirstFailed (early k ++ over t holds pile call) (number_of why)) count
              (last_fails (early c.count) 23 Many _ (number_of why) (λ p. absurd (fails p)) (λ p. absurd (fails p)) h.0),
          h.1,
          h.2,
        )
