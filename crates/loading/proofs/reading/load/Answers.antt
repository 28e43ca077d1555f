use Rattle.std.proofs.Common.{Err}
use Rattle.loading.proofs.FaultLines.{fault_stands}
use Rattle.loading.proofs.NeverRefused.{loads_saved}
use Rattle.loading.proofs.Rewritten.{loaded_text}
use Rattle.loading.proofs.Loadings.{reads, loads_none, loads_ok, loads_row_on, loads_seal}
use Rattle.loading.proofs.reading.load.Goals as goal

pub returns-in_err-draft-clause-loads : goal.returns-in_err-draft-clause-loads
returns-in_err-draft-clause-loads c =
    loads_row_on c.args.text.now c.args.memory.now c.args.name.now c.args.place.now c.cut.result.0.now c.cut.result.1.now c.cut.ensures c.in-Ok.draft c.in-Ok.ensures
    c.take_rows.new.memory c.in_err-draft.field-0.0 c.from_residual.result c.from_residual.ensures.1 c.in_err-draft.ensures

pub returns-in-Ok-seal-clause-loads : goal.returns-in-Ok-seal-clause-loads
returns-in-Ok-seal-clause-loads c =
    loads_ok c.args.text.now c.args.memory.now c.args.name.now c.args.place.now c.cut.result.0.now c.cut.result.1.now c.cut.ensures c.in-Ok.draft c.in-Ok.ensures
    c.in_ok-draft.draft c.take_rows.new.memory c.seal.new.place c.in_ok-draft.ensures c.in-Ok-seal.ensures

pub returns-in-Err-seal-clause-loads : goal.returns-in-Err-seal-clause-loads
returns-in-Err-seal-clause-loads c =
    loads_seal c.args.text.now c.args.memory.now c.args.name.now c.args.place.now c.cut.result.0.now c.cut.result.1.now c.cut.ensures c.in-Ok.draft c.in-Ok.ensures
    c.in_ok-draft.draft c.take_rows.new.memory c.seal.new.place c.in-Err-seal.field-0 c.in_ok-draft.ensures c.in-Err-seal.ensures

pub returns-in-Ok-seal-clause-same : goal.returns-in-Ok-seal-clause-same
returns-in-Ok-seal-clause-same c =
    let rows = c.in_ok-draft.ensures in
    loaded_text c.args.text.now c.args.memory.now c.args.name.now c.in-Ok.draft rows.0 c.in_ok-draft.draft c.take_rows.new.memory c.args.place.now c.seal.new.place
    (reads c.args.text.now c.args.memory.now c.args.name.now c.args.place.now c.cut.result.0.now c.cut.result.1.now c.cut.ensures c.in-Ok.draft c.in-Ok.ensures
    c.in_ok-draft.draft c.take_rows.new.memory rows)
    c.in-Ok-seal.ensures

pub returns-in-Err-clause-saved : goal.returns-in-Err-clause-saved
returns-in-Err-clause-saved c =
    loads_saved c.args.text.now c.args.memory.now c.args.name.now c.args.place.now c.args.memory.now c.args.place.now _
    (loads_none c.args.text.now c.args.memory.now c.args.name.now c.args.place.now c.cut.result.0.now c.cut.result.1.now c.cut.ensures c.in-Err.why c.in-Err.ensures)

pub returns-in_err-draft-clause-saved : goal.returns-in_err-draft-clause-saved
returns-in_err-draft-clause-saved c =
    loads_saved c.args.text.now c.args.memory.now c.args.name.now c.args.place.now c.take_rows.new.memory c.args.place.now c.from_residual.result
    (returns-in_err-draft-clause-loads c)

pub returns-in-Err-seal-clause-saved : goal.returns-in-Err-seal-clause-saved
returns-in-Err-seal-clause-saved c =
    loads_saved c.args.text.now c.args.memory.now c.args.name.now c.args.place.now c.take_rows.new.memory c.seal.new.place _ (returns-in-Err-seal-clause-loads c)

pub returns-in_err-draft-clause-line : goal.returns-in_err-draft-clause-line
returns-in_err-draft-clause-line c =
    fault_stands c.args.text.now c.args.memory.now c.args.name.now c.args.place.now c.take_rows.new.memory c.args.place.now c.from_residual.result
    (returns-in_err-draft-clause-loads c)

pub returns-in-Err-seal-clause-line : goal.returns-in-Err-seal-clause-line
returns-in-Err-seal-clause-line c =
    fault_stands c.args.text.now c.args.memory.now c.args.name.now c.args.place.now c.take_rows.new.memory c.seal.new.place
    (Err (record { line = 0; why = c.in-Err-seal.field-0.why })) (returns-in-Err-seal-clause-loads c)
