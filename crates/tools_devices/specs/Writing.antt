-- Bytes written to a device, whole or in part (own).
use Rattle.std.specs.Prelude.{◌≡◌, ℕ, ◌+◌, List, ◌++◌, Result, Ok, Err}
use Rattle.std.specs.Io.KnownBytes.{Appends}
use Rattle.tools_devices.specs.Counted.{Observed}
use Rattle.tools_devices.specs.declared.tool_error.ToolError.{ToolError}
use Rattle.tools_devices.specs.declared.tool_error.ToolError.TheVariants.{WriteFault}

-- the writer took all of the output, and did not fail
pub record TakesAll (before now : Observed) (output : List ℕ) : Type 0 where
  pub bytes : Appends before.bytes now.bytes output
  pub failures : now.failures ≡ before.failures

-- the writer took the output up to some byte, and then it failed, once
pub record TakesFront (before now : Observed) (output : List ℕ) : Type 0 where
  pub front : List ℕ
  pub back : List ℕ
  pub whole : output ≡ front ++ back
  pub bytes : Appends before.bytes now.bytes front
  pub failures : now.failures ≡ before.failures + 1

-- an output was written, or, if a write failed, up to some byte
abbrev pub Wrote : Observed → Observed → List ℕ → Result Unit ToolError → Type 0
Wrote before now output (Ok _) = TakesAll before now output
Wrote before now output (Err error) = (error ≡ WriteFault) × TakesFront before now output
