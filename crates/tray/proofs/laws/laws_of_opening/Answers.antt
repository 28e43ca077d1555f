use Rattle.tray.proofs.Openings.{opening_laws}
use Rattle.tray.proofs.laws.laws_of_opening.Goals as goal

pub returns : goal.returns
returns c = opening_laws
