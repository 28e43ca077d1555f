use Rattle.std.proofs.Common.{rules, arith}
use Rattle.std.proofs.lemmas.Grind.{common_steps}
use Rattle.std.specs.List.{flat_map}
use Rattle.words.specs.Described.{described}
use Rattle.saving.specs.Laying.{Lays, LaysWhole}
use Rattle.saving.specs.Saved.{rows_text}
use Rattle.saving.specs.TableText.{numbers, row_line}
use Rattle.saving.proofs.Layings.{lays_then}
use Rattle.saving.proofs.Lines.{table_text_is}
use Rattle.saving.proofs.table.lay_table.Goals as goal

pub returns : goal.returns
returns c =
    let rows = c.args.rows.now in
    let lines : Lays (flat_map (row_line (described rows)) (numbers rows.states)) c.lay_names.new.text c.loop-state.text = grind (arith, common_steps) in
    let whole = lays_then c.lay_names.ensures lines in
    let laid : LaysWhole (rows_text rows) c.args.buffer.now c.loop-state.text.buffer.now c.loop-state.text.end = rw table_text_is whole.laid in
    search (rules, laid)
