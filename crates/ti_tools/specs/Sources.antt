-- Why a source is refused, as an error of the tools.
use Rattle.std.specs.Prelude.{ℕ, ◌≡◌, List}
use Rattle.tools_sources.specs.Sources.{IsSourceRefusal}
use Rattle.tools_sources.specs.declared.source_error.SourceError.{SourceError}
use Rattle.tools_sources.specs.declared.source_error.SourceError.TheVariants as refusal
use Rattle.tools_devices.specs.declared.tool_error.ToolError.{ToolError}
use Rattle.tools_devices.specs.declared.tool_error.ToolError.TheVariants.{BlockTooLong, TooManyBlocks}

-- what the tools call the refusal of a source
abbrev pub tool_error : SourceError → ToolError
tool_error (refusal.BlockTooLong line) = BlockTooLong line
tool_error (refusal.TooManyBlocks line) = TooManyBlocks

-- the source is refused, and the tools call it this
pub record IsToldRefusal (source : List ℕ) (error : ToolError) : Type 0 where
  pub refusal : SourceError
  pub refused : IsSourceRefusal source refusal
  pub told : error ≡ tool_error refusal
