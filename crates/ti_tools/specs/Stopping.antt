-- How a tool that stops ends: its exit status, and the line on standard error (tput(1); the texts
-- are own).
use Rattle.std.specs.Prelude.{ℕ, Bool, if◌then◌else◌, ◌||◌, List, [], ◌∷◌, codes, bytes_eq, decimal, Option, Some, None, is_some}
use Rattle.std.specs.List.{concat}
use Rattle.ti_caps.specs.Tables.{capability_named}
use Rattle.ti_layout.specs.declared.fault.ReadError.{ReadError}
use Rattle.ti_layout.specs.declared.fault.ReadError.TheVariants.{Short, Magic, Counts, Truncated, BadNames, BadFlag, BadNumber, BadOffset}
use Rattle.tools_devices.specs.declared.tool_error.ToolError.{ToolError}
use Rattle.tools_devices.specs.declared.tool_error.ToolError.TheVariants.{Usage, NoTerminal, BadEntry, ReadFault, WriteFault}
use Rattle.tools_devices.specs.declared.tool_error.ToolError.TheVariants.{LineTooLong, BlockTooLong, TooManyBlocks, Memory}
use Rattle.tools_commands.specs.Jobs.{tool_name}
use Rattle.tools_commands.specs.declared.jobs.Job.{Job}
use Rattle.tools_commands.specs.declared.jobs.Job.TheVariants.{Infocmp, Session, Tic, Tput}

-- ---- the exit status

-- the status of `tput`; `found` says that the entry was read
abbrev pub tput_status : ToolError → Bool → ℕ
tput_status Usage found = 2
tput_status NoTerminal found = 3
tput_status (BadEntry why) found = 3
tput_status ReadFault found = if found then 255 else 3
tput_status WriteFault found = 255
tput_status LineTooLong found = 255
tput_status (BlockTooLong line) found = 255
tput_status TooManyBlocks found = 255
tput_status Memory found = 255

-- the status of the other tools
abbrev pub plain_status : ToolError → ℕ
plain_status Usage = 2
plain_status _ = 1

-- the status of the tool of a job
abbrev pub status_of : Job → ToolError → Bool → ℕ
status_of (Tic check dir file) error found = plain_status error
status_of (Tput lines term rate words) error found = tput_status error found
status_of Session error found = plain_status error
status_of (Infocmp mode names layout first_dir other_dir) error found = plain_status error

-- ---- the line on standard error

-- what is said after the name of a terminal whose entry is refused
abbrev pub refusal_end : ReadError → List ℕ
refusal_end Short = codes "\" (Short)\n"
refusal_end Magic = codes "\" (Magic)\n"
refusal_end Counts = codes "\" (Counts)\n"
refusal_end Truncated = codes "\" (Truncated)\n"
refusal_end BadNames = codes "\" (BadNames)\n"
refusal_end BadFlag = codes "\" (BadFlag)\n"
refusal_end BadNumber = codes "\" (BadNumber)\n"
refusal_end BadOffset = codes "\" (BadOffset)\n"

-- what a fault without a name or number is called
abbrev pub plain_text : ToolError → List ℕ
plain_text Usage = codes "no terminal named"
plain_text NoTerminal = codes "unknown terminal"
plain_text (BadEntry why) = codes "bad entry"
plain_text ReadFault = codes "read fault"
plain_text WriteFault = codes "write fault"
plain_text LineTooLong = codes "line too long"
plain_text (BlockTooLong line) = codes "block too long"
plain_text TooManyBlocks = codes "too many blocks"
plain_text Memory = codes "out of memory"

-- whether `tput` knows the name, so that its string is bad
abbrev pub is_known : List ℕ → Bool
is_known name = is_some (capability_named name) || bytes_eq name (codes "init") || bytes_eq name (codes "reset")

-- the bytes before a capability that is unknown, or whose string is bad
abbrev pub capability_head : List ℕ → List ℕ
capability_head name = if is_known name then codes ": bad string \"" else codes ": unknown terminfo capability \""

-- the parts of a line: the name of the tool, what is wrong, what it is about, and the end
abbrev pub line_parts : List ℕ → List ℕ → List ℕ → List ℕ → List (List ℕ)
line_parts tool wrong subject end = tool ∷ wrong ∷ subject ∷ end ∷ []

-- The line of a fault; if there is none, the capability of that name is unknown or its string is
-- bad.
abbrev pub message_parts : List ℕ → List ℕ → Option ToolError → List (List ℕ)
message_parts tool name None = line_parts tool (capability_head name) name (codes "\"\n")
message_parts tool name (Some NoTerminal) = line_parts tool (codes ": unknown terminal \"") name (codes "\"\n")
message_parts tool name (Some (BadEntry why)) = line_parts tool (codes ": bad entry \"") name (refusal_end why)
message_parts tool name (Some (BlockTooLong line)) = line_parts tool (codes ": block too long at line ") (decimal line) (codes "\n")
message_parts tool name (Some error) = line_parts tool (codes ": ") (plain_text error) (codes "\n")

-- the line with its newline
abbrev pub message_text : Job → List ℕ → Option ToolError → List ℕ
message_text job name error = concat (message_parts (tool_name job) name error)
