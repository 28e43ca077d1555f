-- What the definitions of an answer come to.
use Rattle.std.specs.Prelude.{◌≡◌, ℕ, ◌↔◌, List, take, Option}
use Rattle.words.specs.Automata.{Automaton}
use Rattle.deciding.specs.Answers.{Answers}
use Rattle.deciding.specs.Printed.{answer_text}
use Rattle.deciding.specs.declared.answer.Answer.{Answer}

-- No more than this many bytes of an input are read.
pub record AnswerLaws (most : ℕ) (numbered : List ℕ → Option ℕ) (size : ℕ) (a : ℕ → Automaton) (holds : ℕ → List ℕ → Type 0) : Type 0 where
  -- one answer is owed to an input, and so one text
  pub one_answer : (input : List ℕ) (x y : Answer) → Answers numbered size a holds input x → Answers numbered size a holds input y → x ≡ y
  pub one_text : (input : List ℕ) (x y : Answer) → Answers numbered size a holds input x → Answers numbered size a holds input y
      → answer_text x ≡ answer_text y
  -- the bytes of an input that are read decide its answer
  pub first_bytes : (input : List ℕ) (x : Answer) → Answers numbered size a holds input x ↔ Answers numbered size a holds (take most input) x
