-- What is told as workflow commands (GitHub Actions, "Workflow commands": "Setting an error message";
-- the escapes are those of GitHub's own toolkit).
use Rattle.std.specs.Prelude.{ℕ, ◌++◌, ◌∷◌, [], ◌==◌, List, codes, flat_map, if◌then◌else◌}
use Rattle.ti_text.specs.Ascii as ascii
use Rattle.source_types.specs.declared.severities.Severity.{Severity}
use Rattle.source_types.specs.declared.severities.Severity.TheVariants.{Error, Warning, Information, Hint}
use Rattle.everyday_forms.specs.Gcc.{ordinal}
use Rattle.everyday_forms.specs.Told.{ToldSeen}

-- a byte of a message
abbrev pub data_byte : ℕ → List ℕ
data_byte byte =
    if byte == ascii.percent then codes "%25"
    else if byte == ascii.carriage_return then codes "%0D"
    else if byte == ascii.newline then codes "%0A"
    else byte ∷ []

-- a byte of a property
abbrev pub property_byte : ℕ → List ℕ
property_byte byte =
    if byte == ascii.colon then codes "%3A"
    else if byte == ascii.comma then codes "%2C"
    else data_byte byte

-- a message
abbrev pub message_data : List ℕ → List ℕ
message_data text = flat_map data_byte text

-- a property
abbrev pub property : List ℕ → List ℕ
property text = flat_map property_byte text

-- the name of the command for an error, a warning and a hint
abbrev pub command_name : Severity → List ℕ
command_name Error = codes "error"
command_name Warning = codes "warning"
command_name Information = codes "notice"
command_name Hint = codes "notice"

-- the name of the command, and the file
abbrev pub command : ToldSeen → List ℕ
command told = codes "::" ++ command_name told.severity ++ codes " file=" ++ property told.file

-- the line, and the column in bytes, each counted from 1
abbrev pub place : ToldSeen → List ℕ
place told = codes ",line=" ++ ordinal told.range.start.line ++ codes ",col=" ++ ordinal told.offset

-- the title and the message
abbrev pub words : ToldSeen → List ℕ
words told = codes ",title=" ++ property told.title ++ codes "::" ++ message_data told.sentence ++ codes "\n"

-- the command, on a line of its own
abbrev pub github_text : ToldSeen → List ℕ
github_text told = command told ++ place told ++ words told
