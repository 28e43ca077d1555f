-- What is printed where a question has no answer.
use Rattle.std.specs.Prelude.{ℕ, List, ◌++◌, codes, decimal}
use Rattle.books.specs.declared.question.NoAnswer.{NoAnswer}
use Rattle.books.specs.declared.question.NoAnswer.TheVariants.{NoPredicate, NoColumn}

abbrev pub no_answer_text : NoAnswer → List ℕ
no_answer_text NoPredicate = codes "the book does not have the predicate"
no_answer_text (NoColumn i) = codes "the column at position " ++ (decimal i ++ codes " has a bit for a place that the predicate does not have")
