-- What a call is called: the name of the tray's call.
use Rattle.std.specs.Prelude.{ℕ, List, codes}
use Rattle.calls.specs.declared.call.Call.{Call}
use Rattle.calls.specs.declared.call.Call.TheVariants.{Place, Single, Negate, Both, Either, Hide, Drop, Save, Judge}

abbrev pub name_of : Call → List ℕ
name_of (Place p listed) = codes "place"
name_of (Single i) = codes "single"
name_of Negate = codes "negate"
name_of Both = codes "both"
name_of Either = codes "either"
name_of (Hide i) = codes "hide"
name_of Drop = codes "drop"
name_of Save = codes "save"
name_of Judge = codes "judge"
