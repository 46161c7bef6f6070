-- How the program holds a session: the source that is edited, and the block that is open.
use Rattle.std.specs.Prelude.{◌≡◌, ℕ, ◌<◌, List, take, Result}
use Rattle.ti_text.specs.Limits.{block_bytes_max}
use Rattle.tools_session.specs.declared.editor.Editor.{Editor}
use Rattle.tools_devices.specs.declared.tool_error.ToolError.{ToolError}
use Rattle.tools_devices.specs.Answering.{Answered}
use Rattle.tools_devices.specs.Counted.{Observed}
use Rattle.tools_session.specs.inside.Requests.{mode_of}
use Rattle.tools_session.specs.Script.{LineLeads, Meaning, Source, SessionState, source}

-- the source that the editor holds
abbrev pub source_of : Editor → Source
source_of editor = source editor.database editor.rebuilt.items

-- The editor holds a state: of the block that is open, at most as many bytes as there is room for,
-- which is more than a block may have.
pub record HasState (editor : Editor) (state : SessionState) : Type 0 where
  pub text : List ℕ
  pub source : source_of editor ≡ state.source
  pub mode : state.mode ≡ mode_of editor.opened text
  pub block : editor.block.bytes ≡ take editor.block.limit text
  pub room : block_bytes_max < editor.block.limit

-- what a line of that meaning leads to is held, and its reply was written
abbrev pub ActsOn : Meaning → SessionState → Editor → Observed → Observed → Result Unit ToolError → Type 0
ActsOn meaning state editor before now result = Answered (HasState editor) (LineLeads meaning state) before now result
