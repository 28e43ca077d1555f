use Rattle.words.specs.Residuals.{SameResidual}
use Rattle.words.proofs.Counts.{never_both, one_count}
use Rattle.words.proofs.TableLaws.{residual_equality, table_counts, same_size, same_next, same_mark}
use Rattle.words.proofs.Answering.{table_answers, table_of_answers}
use Rattle.words.proofs.laws.laws_of_tables.Goals as goal

pub returns : goal.returns
returns c = record {
  never_both = λ n L. never_both n (SameResidual n L) (residual_equality n L);
  one_count = λ n L. one_count n (SameResidual n L) (residual_equality n L);
  counts = table_counts;
  unique = λ n L rows size rows' size' t t'.
      (same_size n L rows size t rows' size' t', same_next n L rows size t rows' size' t', same_mark n L rows size t rows' size' t');
  answers = table_answers;
  own = table_of_answers;
}
