-- The line on standard error of a tool that stops, and the status of the process (tput(1); the texts
-- are own).
use Rattle.std.specs.Prelude.{ℕ, Bool, true, false, List, ◌++◌, codes}
use Rattle.std.specs.String.{string_bytes}
use Rattle.ti_layout.specs.declared.fault.ReadError.TheVariants.{Short, Magic, Counts, Truncated, BadNames, BadFlag, BadNumber, BadOffset}
use Rattle.tools_devices.specs.declared.tool_error.ToolError.{ToolError}
use Rattle.tools_devices.specs.declared.tool_error.ToolError.TheVariants.{Usage, NoTerminal, ReadFault, WriteFault}
use Rattle.tools_devices.specs.declared.tool_error.ToolError.TheVariants.{LineTooLong, BlockTooLong, TooManyBlocks, Memory}
use Rattle.tools_devices.specs.declared.tool_error.ToolError.TheVariants.{BadEntry as BadFile}
use Rattle.user_extension.specs.declared.fault.ExtensionError.{ExtensionError}
use Rattle.user_extension.specs.declared.fault.ExtensionError.TheVariants.{Entry, BadExtension}
use Rattle.everyday_arguments.specs.Names.{shown_name}
use Rattle.everyday_arguments.specs.declared.names.Tool.{Tool}
use Rattle.everyday_arguments.specs.declared.names.Tool.TheVariants.{Tput, Clear, Toe, Tabs, Tset, Reset}
use Rattle.everyday_entries.specs.declared.failure.Failure.{Failure}
use Rattle.everyday_entries.specs.declared.failure.Failure.TheVariants.{NoName, Unknown, Absent, Unreadable, Unwritable, BadEntry, Stopped}

-- the name of a refusal of an entry
abbrev pub refusal_name : ExtensionError → List ℕ
refusal_name (Entry Short) = codes "Short"
refusal_name (Entry Magic) = codes "Magic"
refusal_name (Entry Counts) = codes "Counts"
refusal_name (Entry Truncated) = codes "Truncated"
refusal_name (Entry BadNames) = codes "BadNames"
refusal_name (Entry BadFlag) = codes "BadFlag"
refusal_name (Entry BadNumber) = codes "BadNumber"
refusal_name (Entry BadOffset) = codes "BadOffset"
refusal_name BadExtension = codes "BadExtension"

-- what a fault of a device is called
abbrev pub fault_text : ToolError → List ℕ
fault_text Usage = codes "no terminal named"
fault_text NoTerminal = codes "unknown terminal"
fault_text (BadFile why) = codes "bad entry"
fault_text ReadFault = codes "read fault"
fault_text WriteFault = codes "write fault"
fault_text LineTooLong = codes "line too long"
fault_text (BlockTooLong line) = codes "block too long"
fault_text TooManyBlocks = codes "too many blocks"
fault_text Memory = codes "out of memory"

-- what is reported about a failure, with a newline, given what the system says about a file that
-- could not be read or written
abbrev pub failure_text : Failure → List ℕ → List ℕ
failure_text NoName reason = codes "no terminal is named\n"
failure_text (Unknown name) reason = codes "unknown terminal \"" ++ string_bytes name ++ codes "\"\n"
failure_text (Absent path) reason = string_bytes path ++ codes ": No such file or directory\n"
failure_text (Unreadable path) reason = string_bytes path ++ codes ": " ++ reason ++ codes "\n"
failure_text (Unwritable path) reason = string_bytes path ++ codes ": " ++ reason ++ codes "\n"
failure_text (BadEntry path why) reason = string_bytes path ++ codes ": bad entry (" ++ refusal_name why ++ codes ")\n"
failure_text (Stopped error) reason = fault_text error ++ codes "\n"

-- the line of a failure: the tool, and what is said
abbrev pub line_of : Tool → Failure → List ℕ → List ℕ
line_of tool failure reason = shown_name tool ++ codes ": " ++ failure_text failure reason

-- what is said before a capability that is unknown, or, if it is known, whose string is bad
abbrev pub capability_head : Bool → List ℕ
capability_head true = codes ": bad string '"
capability_head false = codes ": unknown terminfo capability '"

-- the line of such a capability
abbrev pub capability_line : Tool → List ℕ → Bool → List ℕ
capability_line tool capability known = shown_name tool ++ capability_head known ++ capability ++ codes "'\n"

-- the status: of `ti-clear`, `ti-toe`, `ti-tabs`, `ti-tset` and `ti-reset` 1 (clear(1), toe(1), tabs(1),
-- tset(1)); of the others 2 if no terminal is named, and at bad usage; else 1, but of `ti-tput` 3 if there is
-- no entry to be had, and 255 at a fault of a device
abbrev pub status_of : Tool → Failure → ℕ
status_of Clear failure = 1
status_of Toe failure = 1
status_of Tabs failure = 1
status_of Tset failure = 1
status_of Reset failure = 1
status_of tool NoName = 2
status_of tool (Stopped Usage) = 2
status_of Tput (Stopped error) = 255
status_of Tput failure = 3
status_of tool failure = 1
