-- The number, the layer and the line of each reason why a text is not saved again.
use Rattle.std.specs.Prelude.{ℕ}
use Rattle.checks.specs.Layers.{layer_of}
use Rattle.tray.specs.Refusals.{number_of}
use Rattle.loading.specs.Faults.{fault_number}
use Rattle.returning.specs.declared.again.Unreturned.{Unreturned}
use Rattle.returning.specs.declared.again.Unreturned.TheVariants.{NotLoaded, NotOpened}

abbrev pub unreturned_number : Unreturned → ℕ
unreturned_number (NotLoaded fault) = fault_number fault
unreturned_number (NotOpened why) = number_of why

abbrev pub unreturned_layer : Unreturned → ℕ
unreturned_layer e = layer_of (unreturned_number e)

-- the line of the text at fault, counted from 1; 0 where no one line is, as for a tray that is not opened
abbrev pub unreturned_line : Unreturned → ℕ
unreturned_line (NotLoaded fault) = fault.line
unreturned_line (NotOpened why) = 0
