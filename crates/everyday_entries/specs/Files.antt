-- The file of an entry that is asked for by a name or by a path (infocmp(1); that a name with a slash
-- is a path is own).
use Rattle.std.specs.Prelude.{◌≡◌, ⊤, ℕ, ◌+◌, ◌==◌, Bool, true, false, Some, None, Option, Result, Ok, Err, List}
use Rattle.std.specs.List.{list_any}
use Rattle.std.specs.String.{string_bytes}
use Rattle.ti_text.specs.Ascii as ascii
use Rattle.tools_devices.specs.Tree.{Files, FindsFile}
use Rattle.tools_devices.specs.declared.tool_error.ToolError.TheVariants.{NoTerminal, Memory as MemoryFault}
use Rattle.tools_directories.specs.Finding.{Answers, front_size}
use Rattle.tools_directories.specs.declared.finding.Found.{Found}
use Rattle.everyday_entries.specs.declared.failure.Failure.{Failure}
use Rattle.everyday_entries.specs.declared.failure.Failure.TheVariants.{Unknown, Absent, Unreadable, Stopped}

-- whether a name is the path of a file: it has a slash
abbrev pub is_path : List ℕ → Bool
is_path name = list_any (λ byte. byte == ascii.slash) name

-- what is answered to a path, by how many reads failed: the file, that there is none, or that it
-- could not be read; out of memory may come at any time
abbrev pub AnswersPath : Option Files → List ℕ → ℕ → Result Found Failure → Type 0
AnswersPath files path failures (Ok found) =
    (failures ≡ 0) × (string_bytes found.path ≡ path) × FindsFile path front_size files (Some found.bytes.items)
AnswersPath files path failures (Err (Absent said)) = (failures ≡ 0) × (string_bytes said ≡ path) × FindsFile path front_size files None
AnswersPath files path failures (Err (Unreadable said)) = (failures ≡ 1) × (string_bytes said ≡ path)
AnswersPath files path failures (Err (Stopped MemoryFault)) = ⊤
AnswersPath files path failures (Err _) = ⊥

-- what is answered to the name of a terminal: its file in these directories, or that it is unknown
abbrev pub AnswersName : Option Files → List ℕ → List (List ℕ) → ℕ → Result Found Failure → Type 0
AnswersName files name directories failures (Ok found) = Answers files name directories failures (Ok found)
AnswersName files name directories failures (Err (Unknown said)) = (string_bytes said ≡ name) × Answers files name directories failures (Err NoTerminal)
AnswersName files name directories failures (Err (Stopped MemoryFault)) = ⊤
AnswersName files name directories failures (Err _) = ⊥

-- what is answered to either
abbrev pub AnswersEither : Bool → Option Files → List ℕ → List (List ℕ) → ℕ → Result Found Failure → Type 0
AnswersEither true files name directories failures result = AnswersPath files name failures result
AnswersEither false files name directories failures result = AnswersName files name directories failures result

-- ---- the same, by the failures that the tree counts before and after

-- to a path
abbrev pub GivesFileAt : Option Files → List ℕ → ℕ → ℕ → Result Found Failure → Type 0
GivesFileAt files path before after result = (failures : ℕ) × (after ≡ before + failures) × AnswersPath files path failures result

-- to the name of a terminal
abbrev pub GivesNamedFile : Option Files → List ℕ → List (List ℕ) → ℕ → ℕ → Result Found Failure → Type 0
GivesNamedFile files name directories before after result =
    (failures : ℕ) × (after ≡ before + failures) × AnswersName files name directories failures result

-- to either
abbrev pub GivesFile : Option Files → List ℕ → List (List ℕ) → ℕ → ℕ → Result Found Failure → Type 0
GivesFile files name directories before after result =
    (failures : ℕ) × (after ≡ before + failures) × AnswersEither (is_path name) files name directories failures result
