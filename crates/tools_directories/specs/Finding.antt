-- The file of a terminal's entry, looked for at one path after another (term(5), "Storage
-- location"; that a file which cannot be read is passed over is as ncurses does).
use Rattle.std.specs.Option.{option_or}
use Rattle.std.specs.Prelude.{◌≡◌, ◌⊎◌, ℕ, suc, ◌+◌, true, false, Option, Some, None, option_map, Result, Ok, Err, List, [], ◌∷◌, take}
use Rattle.std.specs.String.{string_bytes}
use Rattle.ti_source.specs.Header.{is_lookup_name}
use Rattle.tools_devices.specs.Searching.{file_bytes_max}
use Rattle.tools_devices.specs.Tree.{FileAt, Files, FindsFile}
use Rattle.tools_devices.specs.declared.tool_error.ToolError.{ToolError}
use Rattle.tools_devices.specs.declared.tool_error.ToolError.TheVariants.{NoTerminal, Memory}
use Rattle.tools_directories.specs.Paths.{letter_paths_of, paths_of}
use Rattle.tools_directories.specs.declared.finding.Found.{Found}

-- how many bytes of a file are looked at: one more than an entry may have
abbrev pub front_size : ℕ
front_size = suc file_bytes_max

-- what was found, as a path and bytes
abbrev pub file_of : Found → FileAt
file_of found = (string_bytes found.path, found.bytes.items)

-- A search at paths, one after another, of a tree that holds these files, if that is known: how many
-- of the reads failed, and the first file that there is. A path is passed if there is no such file,
-- or if the read failed.
pub data Searches (files : Option Files) : List (List ℕ) → ℕ → Option FileAt → Type 0 where
  no_path : Searches files [] 0 None
  there : {path bytes : List ℕ} {paths : List (List ℕ)} → FindsFile path front_size files (Some bytes) →
      Searches files (path ∷ paths) 0 (Some (path, bytes))
  absent : {path : List ℕ} {paths : List (List ℕ)} {failures : ℕ} {file : Option FileAt} → FindsFile path front_size files None →
      Searches files paths failures file → Searches files (path ∷ paths) failures file
  failed : {path : List ℕ} {paths : List (List ℕ)} {failures : ℕ} {file : Option FileAt} →
      Searches files paths failures file → Searches files (path ∷ paths) (suc failures) file

-- the tree has failed some times more
abbrev pub HasFailed : ℕ → ℕ → Type 0
HasFailed before after = (failures : ℕ) × (after ≡ before + failures)

-- what a search found, by the failures that the tree counts before and after
abbrev pub Finds : Option Files → List (List ℕ) → ℕ → ℕ → Option FileAt → Type 0
Finds files paths before after file = (failures : ℕ) × (after ≡ before + failures) × Searches files paths failures file

-- what a search for the entry of a name returns, by how many reads failed: the file and its path,
-- or that there is no terminal of the name, which is so if it is not a lookup name
abbrev pub Answers : Option Files → List ℕ → List (List ℕ) → ℕ → Result Found ToolError → Type 0
Answers files name directories failures (Ok found) =
    (is_lookup_name name ≡ true) × Searches files (paths_of name directories) failures (Some (file_of found))
Answers files name directories failures (Err NoTerminal) =
    ((is_lookup_name name ≡ false) × (failures ≡ 0))
    ⊎ ((is_lookup_name name ≡ true) × Searches files (paths_of name directories) failures None)
Answers files name directories failures (Err Memory) = is_lookup_name name ≡ true
Answers files name directories failures (Err _) = ⊥

-- the same, by the failures that the tree counts before and after
abbrev pub FindsEntry : Option Files → List ℕ → List (List ℕ) → ℕ → ℕ → Result Found ToolError → Type 0
FindsEntry files name directories before after result = (failures : ℕ) × (after ≡ before + failures) × Answers files name directories failures result

-- ---- laws

-- the first file at one of the paths
abbrev pub first_at : Files → List (List ℕ) → Option FileAt
first_at files [] = None
first_at files (path ∷ paths) = option_or (option_map (λ bytes. (path, take front_size bytes)) (files path)) (first_at files paths)

-- a search of which no read failed finds the first file
abbrev pub FindsTheFirst : Type 0
FindsTheFirst = (files : Files) (paths : List (List ℕ)) (file : Option FileAt) → Searches (Some files) paths 0 file → file ≡ first_at files paths

-- a file that is found by the letter is the one that is found, in whichever of the directories it is
abbrev pub LettersComeFirst : Type 0
LettersComeFirst = (files : Files) (name : List ℕ) (directories : List (List ℕ)) (file : FileAt) → first_at files (letter_paths_of name directories) ≡ Some file
    → first_at files (paths_of name directories) ≡ Some file
