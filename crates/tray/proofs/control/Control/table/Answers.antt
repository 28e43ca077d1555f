use Rattle.tray.proofs.Recovering.{shown_table}
use Rattle.tray.proofs.control.Control.table.Goals as goal

pub invariant_of-result : goal.invariant_of-result
invariant_of-result c =
    let rows = c.rows.result in
    record { is_table = shown_table c.args.self.now c.args.tables.now c.args.k rows c.rows.ensures.places c.rows.ensures.states c.rows.ensures.cells c.requires.stands }
