-- The laws of answers, put together.
use Rattle.std.proofs.Common.{ℕ, List, Option, ap}
use Rattle.words.specs.Automata.{Automaton}
use Rattle.deciding.specs.AnswerLaws.{AnswerLaws}
use Rattle.deciding.specs.Printed.{answer_text}
use Rattle.deciding.proofs.FirstBytes.{first_bytes}
use Rattle.deciding.proofs.OneAnswer.{one_answer}

module _ (numbered : List ℕ → Option ℕ) (size : ℕ) (a : ℕ → Automaton) (holds : ℕ → List ℕ → Type 0) where
  pub answer_laws : AnswerLaws 1061 numbered size a holds
  answer_laws = record {
    one_answer = one_answer numbered size a holds;
    one_text = λ input x y h k. ap answer_text (one_answer numbered size a holds input x y h k);
    first_bytes = λ input. first_bytes input numbered size a holds;
  }
