-- One read of a device, and what of it is used (own).
use Rattle.std.specs.Prelude.{◌≡◌, ℕ, ◌+◌, ◌≤◌, List, [], length, take, Result, Ok, Err}
use Rattle.std.specs.Io.KnownBytes.{IsAtEnd, Keeps}
use Rattle.tools_devices.specs.Counted.{Observed}
use Rattle.tools_devices.specs.declared.tool_error.ToolError.{ToolError}
use Rattle.tools_devices.specs.declared.tool_error.ToolError.TheVariants.{ReadFault}
use Rattle.tools_devices.specs.Reading.{Gives}

-- the most bytes that are asked for at a time
abbrev pub read_bytes_max : ℕ
read_bytes_max = 4096

-- the reader gave no byte, and failed once
pub record FailsOnce (given left : Observed) : Type 0 where
  pub bytes : Keeps given.bytes left.bytes
  pub failures : left.failures ≡ given.failures + 1

-- One read gave the front of a piece, and no byte only at the end; or it failed.
abbrev pub ReadsOnce : Observed → Observed → List ℕ → Result ℕ ToolError → Type 0
ReadsOnce given left piece (Ok count) =
    (count ≤ length piece) × Gives given left (take count piece) × (count ≡ 0 → IsAtEnd left.bytes)
ReadsOnce given left piece (Err error) = (error ≡ ReadFault) × FailsOnce given left

-- One read gave these bytes, and none only at the end; or it failed, and gave none.
abbrev pub Refill : Observed → Observed → List ℕ → Result Unit ToolError → Type 0
Refill given left came (Ok _) = Gives given left came × (came ≡ [] → IsAtEnd left.bytes)
Refill given left came (Err error) = (error ≡ ReadFault) × FailsOnce given left
