-- The number of each reason, and its layer.
use Rattle.std.specs.Prelude.{ℕ}
use Rattle.checks.specs.Layers.{layer_of}
use Rattle.tray.specs.Refusals.{number_of}
use Rattle.tray.specs.declared.refusal.Refusal.{Refusal}
use Rattle.grammar.specs.Flaws.{flaw_number}
use Rattle.grammar.specs.declared.flaw.Flawed.{Flawed}
use Rattle.reading.specs.declared.fault.Fault.{Fault}
use Rattle.reading.specs.declared.fault.Reason.{Reason}
use Rattle.reading.specs.declared.fault.Reason.TheVariants.{Text, Call}

abbrev pub reason_number : Reason → ℕ
reason_number (Text flaw) = flaw_number flaw
reason_number (Call refusal) = number_of refusal

abbrev pub reason_layer : Reason → ℕ
reason_layer r = layer_of (reason_number r)

-- a flaw of the text as a fault
abbrev pub fault_of : Flawed → Fault
fault_of e = record { reason = Text e.flaw; place = e.place }

-- a refused call that no part of the text asks for
abbrev pub fault_of_call : Refusal → Fault
fault_of_call why = record { reason = Call why; place = 0 }
