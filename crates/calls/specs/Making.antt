-- What making a call does: the tray's call of that name answers.
use Rattle.std.specs.Prelude.{◌≡◌, ℕ, ◌-◌, ◌≤◌, List, Result}
use Rattle.words.specs.Automata.{Automaton}
use Rattle.words.specs.TableOf.{TableOf}
use Rattle.tables.specs.declared.pairs.Join.TheVariants.{Both as both-join, Either as either-join}
use Rattle.judging.specs.declared.verdict.Judgement.{Judgement}
use Rattle.tray.specs.Calls.{Places, Singles, Negates, JoinsTables, HidesTop, Drops, SavesTop, JudgesTop}
use Rattle.tray.specs.View.{size_of, rows_of, says}
use Rattle.tray.specs.declared.control.Control.{Control}
use Rattle.tray.specs.declared.refusal.Refusal.{Refusal}
use Rattle.calls.specs.declared.call.Call.{Call}
use Rattle.calls.specs.declared.call.Call.TheVariants.{Place, Single, Negate, Both, Either, Hide, Drop, Save, Judge}
use Rattle.calls.specs.declared.call.Reply.{Reply}
use Rattle.calls.specs.Buffers.{Buffers}
use Rattle.calls.specs.Lent.{Lent}
use Rattle.calls.specs.Replies.{built, dropped, saved, judged}

-- a building call: the reply is what the tray answered, and nothing is written to the output buffers
abbrev pub RepliesBuilt : (Result (ℕ × ℕ) Refusal → Type 0) → Buffers → Buffers → Reply → Type 0
RepliesBuilt Answers out out' reply = (r : Result (ℕ × ℕ) Refusal) × (reply ≡ built r) × Answers r × (out' ≡ out)

-- the top, where there is one, is the table of the words that it accepts
abbrev pub TopTable : Control → List ℕ → Type 0
TopTable c tables =
    1 ≤ c.count → TableOf c.sets (says c tables (c.count - 1)) (rows_of c tables (c.count - 1)) (size_of c (c.count - 1))

-- A call with so much memory, on a tray that holds tables under a control record, with a book that has `size` predicates.
abbrev pub Makes : Lent → ℕ → (ℕ → Automaton) → (ℕ → List ℕ → Type 0) → Call → Control → List ℕ → Buffers → Control → List ℕ → Buffers → Reply → Type 0
Makes lent size a holds (Place p listed) c tables out c' tables' out' reply =
    RepliesBuilt (Places lent.states lent.links size p (a p) (holds p) listed.now c tables c' tables') out out' reply
Makes lent size a holds (Single i) c tables out c' tables' out' reply = RepliesBuilt (Singles i c tables c' tables') out out' reply
Makes lent size a holds Negate c tables out c' tables' out' reply = RepliesBuilt (Negates c tables c' tables') out out' reply
Makes lent size a holds Both c tables out c' tables' out' reply =
    RepliesBuilt (JoinsTables both-join lent.pairs lent.links c tables c' tables') out out' reply
Makes lent size a holds Either c tables out c' tables' out' reply =
    RepliesBuilt (JoinsTables either-join lent.pairs lent.links c tables c' tables') out out' reply
Makes lent size a holds (Hide i) c tables out c' tables' out' reply = RepliesBuilt (HidesTop lent.sets lent.links i c tables c' tables') out out' reply
Makes lent size a holds Drop c tables out c' tables' out' reply =
    (r : Result (Unit {0}) Refusal) × (reply ≡ dropped r) × Drops c tables c' tables' r × (out' ≡ out)
Makes lent size a holds Save c tables out c' tables' out' reply =
    (r : Result ℕ Refusal) × (reply ≡ saved r) × SavesTop c tables out.text out'.text r × TopTable c tables × (c' ≡ c) × (tables' ≡ tables)
    × (out'.witness ≡ out.witness) × (out'.counterexample ≡ out.counterexample)
Makes lent size a holds Judge c tables out c' tables' out' reply =
    (r : Result Judgement Refusal) × (reply ≡ judged r) × JudgesTop c tables out.witness out.counterexample out'.witness out'.counterexample r
    × (c' ≡ c) × (tables' ≡ tables) × (out'.text ≡ out.text)
