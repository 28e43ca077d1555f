-- A run: the calls feed the pile one by one.
use Rattle.std.proofs.Common.{◌≡◌, ℕ, ◌+◌, ◌<◌, ◌≤◌, List, [], ◌∷◌, ◌++◌, length, take, get_or, refl, sym, ◌∙◌, subst}
use Rattle.std.proofs.lemmas.List.{take_all, take_more}
use Rattle.words.specs.Automata.{Automaton}
use Rattle.words.specs.Formulas.{Formula}
use Rattle.tray.specs.declared.control.Control.{Control}
use Rattle.calls.specs.declared.call.Call.{Call}
use Rattle.calls.specs.declared.call.Call.TheVariants.{Place, Single, Negate, Both, Either, Hide, Drop, Save, Judge}
use Rattle.calls.specs.declared.call.Reply.{Reply}
use Rattle.calls.specs.declared.running.Settings.{Settings}
use Rattle.calls.specs.Buffers.{Buffers}
use Rattle.calls.specs.Lent.{Lent}
use Rattle.calls.specs.Making.{Makes}
use Rattle.calls.specs.Owed.{Terms, Desk, Owes, Feeds, Fed}
use Rattle.calls.specs.Promise.{StandsFor, Continues, settings_of, terms}
use Rattle.calls.specs.Replies.{built, dropped, saved, judged}
use Rattle.calls.proofs.EachCall.{place_step, single_step, both_step, either_step, hide_step, negate_step, drop_step}
use Rattle.calls.proofs.Showing.{save_step, judge_step}
use Rattle.calls.proofs.Standing.{going}
use Rattle.calls.proofs.Stepping.{desk, Steps}

-- one call more at the end
fed_more : (t : Terms) (holds : ℕ → List ℕ → Type 0) (calls : List Call) (call : Call) (d e e' : Desk) → Fed t holds d calls e → Feeds t holds e call e'
    → Fed t holds d (calls ++ (call ∷ [])) e'
fed_more t holds [] call d e e' fed feeds = (e', subst (λ x. Feeds t holds x call e') fed feeds, refl)
fed_more t holds (first ∷ calls) call d e e' fed feeds = (fed.0, fed.1, fed_more t holds calls call fed.0 e e' fed.2 feeds)

pub fed_next : (t : Terms) (holds : ℕ → List ℕ → Type 0) (calls : List Call) (i : ℕ) (other : Call) (d e e' : Desk) → i < length calls
    → Fed t holds d (take i calls) e → Feeds t holds e (get_or calls i other) e' → Fed t holds d (take (i + 1) calls) e'
fed_next t holds calls i other d e e' there fed feeds =
    subst (λ made. Fed t holds d made e') (sym (take_more calls i other there)) (fed_more t holds (take i calls) (get_or calls i other) d e e' fed feeds)

-- all calls
pub fed_all : (t : Terms) (holds : ℕ → List ℕ → Type 0) (calls : List Call) (i : ℕ) (d e : Desk) → length calls ≤ i → Fed t holds d (take i calls) e → Fed t holds d calls e
fed_all t holds calls i d e past fed = subst (λ made. Fed t holds d made e) (take_all i calls past) fed

module _ (lent : Lent) (size : ℕ) (a : ℕ → Automaton) (holds : ℕ → List ℕ → Type 0) where
  -- what goes by one name on the tray and on the pile
  replied : {R : Type 0} (t : Terms) (pile : List Formula) (buffers buffers' : Buffers) (call : Call) (reply : Reply) (reading : R → Reply) (r : R) (c c' : Control)
      (tables' : List ℕ) → reply ≡ reading r → buffers' ≡ buffers → Steps t holds pile buffers call (reading r) c c' tables' buffers
      → Steps t holds pile buffers call reply c c' tables' buffers'
  replied t pile buffers buffers' call reply reading r c c' tables' e same s =
      subst (λ x. Steps t holds pile buffers call x c c' tables' buffers') (sym e)
      (subst (λ b. Steps t holds pile buffers call (reading r) c c' tables' b) (sym same) s)

  -- a call that only looks at the tray
  looked : {R : Type 0} (t : Terms) (pile : List Formula) (buffers buffers' : Buffers) (call : Call) (reply : Reply) (reading : R → Reply) (r : R) (c : Control)
      (tables : List ℕ) (c' : Control) (tables' : List ℕ) → reply ≡ reading r → c' ≡ c → tables' ≡ tables
      → Steps t holds pile buffers call (reading r) c c tables buffers' → Steps t holds pile buffers call reply c c' tables' buffers'
  looked t pile buffers buffers' call reply reading r c tables c' tables' e same same' s =
      subst (λ x. Steps t holds pile buffers call x c c' tables' buffers') (sym e)
      (subst (λ x. Steps t holds pile buffers call (reading r) c x tables' buffers') (sym same)
      (subst (λ x. Steps t holds pile buffers call (reading r) c c x buffers') (sym same') s))

  pub step : (call : Call) (c : Control) (tables : List ℕ) (buffers : Buffers) (c' : Control) (tables' : List ℕ) (buffers' : Buffers) (reply : Reply)
      (pile : List Formula) → StandsFor holds c tables pile
      → Makes lent size a holds call c tables buffers c' tables' buffers' reply
      → Steps (going c lent size a) holds pile buffers call reply c c' tables' buffers'
  step (Place p listed) c tables buffers c' tables' buffers' reply pile stands h =
      replied (going c lent size a) pile buffers buffers' (Place p listed) reply built h.0 c c' tables' h.1 h.3
      (place_step lent size a holds buffers c tables c' tables' p listed pile stands h.0 h.2)
  step (Single i) c tables buffers c' tables' buffers' reply pile stands h =
      replied (going c lent size a) pile buffers buffers' (Single i) reply built h.0 c c' tables' h.1 h.3
      (single_step lent size a holds buffers c tables c' tables' i pile stands h.0 h.2)
  step Negate c tables buffers c' tables' buffers' reply pile stands h =
      replied (going c lent size a) pile buffers buffers' Negate reply built h.0 c c' tables' h.1 h.3
      (negate_step lent size a holds buffers c tables c' tables' pile stands h.0 h.2)
  step Both c tables buffers c' tables' buffers' reply pile stands h =
      replied (going c lent size a) pile buffers buffers' Both reply built h.0 c c' tables' h.1 h.3
      (both_step lent size a holds buffers c tables c' tables' pile stands h.0 h.2)
  step Either c tables buffers c' tables' buffers' reply pile stands h =
      replied (going c lent size a) pile buffers buffers' Either reply built h.0 c c' tables' h.1 h.3
      (either_step lent size a holds buffers c tables c' tables' pile stands h.0 h.2)
  step (Hide i) c tables buffers c' tables' buffers' reply pile stands h =
      replied (going c lent size a) pile buffers buffers' (Hide i) reply built h.0 c c' tables' h.1 h.3
      (hide_step lent size a holds buffers c tables c' tables' i pile stands h.0 h.2)
  step Drop c tables buffers c' tables' buffers' reply pile stands h =
      replied (going c lent size a) pile buffers buffers' Drop reply dropped h.0 c c' tables' h.1 h.3
      (drop_step lent size a holds buffers c tables c' tables' pile stands h.0 h.2)
  step Save c tables buffers c' tables' buffers' reply pile stands h =
      looked (going c lent size a) pile buffers buffers' Save reply saved h.0 c tables c' tables' h.1 h.4 h.5
      (save_step lent size a holds buffers buffers' c tables h.6 h.7 pile stands h.3 h.0 h.2)
  step Judge c tables buffers c' tables' buffers' reply pile stands h =
      looked (going c lent size a) pile buffers buffers' Judge reply judged h.0 c tables c' tables' h.1 h.3 h.4
      (judge_step lent size a holds buffers buffers' c tables h.5 pile stands h.0 h.2)

-- a call that is made so keeps the promise of one step
pub continues : (lent : Lent) (size : ℕ) (a : ℕ → Automaton) (holds : ℕ → List ℕ → Type 0) (call : Call) (c : Control) (tables : List ℕ) (out : Buffers)
    (c' : Control) (tables' : List ℕ) (out' : Buffers) (reply : Reply) → Makes lent size a holds call c tables out c' tables' out' reply
    → Continues lent size a holds call c tables out c' tables' out' reply
continues lent size a holds call c tables out c' tables' out' reply made pile stands =
    step lent size a holds call c tables out c' tables' out' reply pile stands made

-- the promise of one step, on a tray with these settings
pub step_under : (s : Settings) (lent : Lent) (size : ℕ) (a : ℕ → Automaton) (holds : ℕ → List ℕ → Type 0) (call : Call) (c : Control) (tables : List ℕ)
    (out : Buffers) (c' : Control) (tables' : List ℕ) (out' : Buffers) (reply : Reply) → settings_of c ≡ s
    → Continues lent size a holds call c tables out c' tables' out' reply → (pile : List Formula) → StandsFor holds c tables pile
    → (left : List Formula) × Owes (terms s lent size a) holds (desk pile out) call reply (desk left out') × (settings_of c' ≡ s)
    × StandsFor holds c' tables' left
step_under s lent size a holds call c tables out c' tables' out' reply is continued pile stands =
    let after = continued pile stands in
    (after.0, subst (λ x. Owes (terms x lent size a) holds (desk pile out) call reply (desk after.0 out')) is after.1, after.2 ∙ is, after.3)
