use Rattle.words.proofs.Recovered.{table_of}
use Rattle.judging.proofs.Judgements.{written_none, written_some}
use Rattle.judging.proofs.verdict.write_earliest.Goals as goal

pub returns-in_err-state : goal.returns-in_err-state
returns-in_err-state c =
    rw c.from_residual.ensures (written_none c.args.table.now.rows (table_of c.args.table.now) c.args.accepting c.args.buffer.now c.requires.room c.in_err-state.ensures)

pub returns : goal.returns
returns c =
    written_some c.args.table.now.rows (table_of c.args.table.now) c.args.accepting c.args.buffer.now c.requires.room c.in_ok-state.state c.word_length-count.result
    c.write_word.new.buffer c.in_ok-state.ensures c.word_length-count.ensures c.write_word.ensures c.write_word.auto.buffer
