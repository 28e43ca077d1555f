-- What the output buffers hold.
use Rattle.std.specs.Prelude.{ℕ, List}
use Rattle.calls.specs.declared.memory.Output.{Output}

-- those of the two words that judge writes, and that of the text that save writes
pub record Buffers : Type 0 where
  pub witness : List ℕ
  pub counterexample : List ℕ
  pub text : List ℕ

abbrev pub held : {columns bytes : ℕ} → Output columns bytes → Buffers
held out = record { witness = out.witness; counterexample = out.counterexample; text = out.text }
