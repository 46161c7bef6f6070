-- Why a tool stops (own).
use Rattle.tools_devices.specs.declared.tool_error.ToolError.TheVariants.{Memory}
use Rattle.everyday_entries.specs.declared.failure.Failure.{Failure}
use Rattle.everyday_entries.specs.declared.failure.Failure.TheVariants.{Stopped}

-- memory ran out
abbrev pub out_of_memory : Failure
out_of_memory = Stopped Memory
