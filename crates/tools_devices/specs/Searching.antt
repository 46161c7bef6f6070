-- The directories in which a terminal's entry is looked for, and what its file says (term(5),
-- "Storage location"; tput(1)).
use Rattle.std.specs.Option.{option_or}
use Rattle.std.specs.Prelude.{◌≡◌, ◌⊎◌, ℕ, suc, ◌≤◌, ◌<◌, ◌==◌, true, false, if◌then◌else◌, Option, Some, None, option_map, Result, Ok, Err}
use Rattle.std.specs.Prelude.{List, [], ◌∷◌, ◌++◌, length, map, take, codes}
use Rattle.std.specs.List.{slice_split}
use Rattle.std.specs.Global.{Vec}
use Rattle.ti_text.specs.Ascii as ascii
use Rattle.ti_layout.specs.Reading.{Reads, FailsToRead}
use Rattle.ti_layout.specs.View.{names_of, view_contents}
use Rattle.ti_layout.specs.Values.{Contents}
use Rattle.ti_layout.specs.declared.fault.ReadError.{ReadError}
use Rattle.ti_layout.specs.declared.fault.ReadError.TheVariants.{Counts}
use Rattle.ti_layout.specs.declared.view.View.{View}
use Rattle.tools_devices.specs.Paths.{path_of}
use Rattle.tools_devices.specs.Tree.{Files}
use Rattle.tools_devices.specs.declared.tool_error.ToolError.{ToolError}
use Rattle.tools_devices.specs.declared.tool_error.ToolError.TheVariants.{NoTerminal, BadEntry, ReadFault, Memory}
use Rattle.ti_source.specs.Header.{is_lookup_name}

-- the most bytes of a file that may be an entry (own); of a longer file one byte more is looked at
abbrev pub file_bytes_max : ℕ
file_bytes_max = 65536

-- ---- the directories

-- the directory of the system's entries
abbrev pub system_directory : List ℕ
system_directory = codes "/usr/share/terminfo"

-- the directory that TERMINFO names, if it is set and not empty
abbrev pub own_directory : Option (List ℕ) → List (List ℕ)
own_directory None = []
own_directory (Some []) = []
own_directory (Some (byte ∷ bytes)) = (byte ∷ bytes) ∷ []

-- the directory that a part of TERMINFO_DIRS names: an empty part names the system's
abbrev pub directory_of_part : List ℕ → List ℕ
directory_of_part part = if length part == 0 then system_directory else part

-- the directories that TERMINFO_DIRS names, if it is set: its parts between colons
abbrev pub listed_directories : Option (List ℕ) → List (List ℕ)
listed_directories None = []
listed_directories (Some dirs) = map directory_of_part (slice_split (λ byte. byte == ascii.colon) dirs)

-- the directories in which an entry is looked for, in order
unfoldable pub directories_of : Option (List ℕ) → Option (List ℕ) → List (List ℕ)
directories_of terminfo dirs = own_directory terminfo ++ listed_directories dirs ++ system_directory ∷ []

-- ---- the file of a name

-- the file of a name in the first directory that has it
unfoldable pub first_file : Files → List ℕ → List (List ℕ) → Option (List ℕ)
first_file files name [] = None
first_file files name (directory ∷ directories) = option_or (files (path_of directory name)) (first_file files name directories)

-- what was found of a name in these directories, if it is known what the tree holds: so many bytes
-- of the first file
abbrev pub Finds : ℕ → Option Files → List ℕ → List (List ℕ) → Option (List ℕ) → Type 0
Finds count None name directories found = Unit {0}
Finds count (Some files) name directories found = found ≡ option_map (take count) (first_file files name directories)

-- what a search returns: the file, or that there is no terminal of the name, which is so if it is
-- not a lookup name
abbrev pub Locates : ℕ → Option Files → List ℕ → List (List ℕ) → Result (Vec ℕ) ToolError → Type 0
Locates count files name directories (Ok bytes) = (is_lookup_name name ≡ true) × Finds count files name directories (Some bytes.items)
Locates count files name directories (Err NoTerminal) =
    (is_lookup_name name ≡ false) ⊎ ((is_lookup_name name ≡ true) × Finds count files name directories None)
Locates count files name directories (Err ReadFault) = is_lookup_name name ≡ true
Locates count files name directories (Err Memory) = is_lookup_name name ≡ true
Locates count files name directories (Err _) = ⊥

-- ---- the entry in a file

-- the refusal of a file over the limit: that of its first bytes, one more than the limit, or that
-- of its counts
abbrev pub IsTooLong : ℕ → List ℕ → ReadError → Type 0
IsTooLong limit bytes error =
    (limit < length bytes)
    × (FailsToRead (take (suc limit) bytes) error
    ⊎ ((error ≡ Counts) × (names : List ℕ) × (contents : Contents) × Reads (take (suc limit) bytes) names contents))

-- the entry that bytes within the limit read as, or their refusal
abbrev pub Opens : ℕ → List ℕ → Result View ToolError → Type 0
Opens limit bytes (Ok view) = (length bytes ≤ limit) × Reads bytes (names_of view) (view_contents view)
Opens limit bytes (Err (BadEntry error)) = ((length bytes ≤ limit) × FailsToRead bytes error) ⊎ IsTooLong limit bytes error
Opens limit bytes (Err _) = ⊥

-- the failures of a search, by its answer: one if the tree failed
abbrev pub search_failures : {X : Type 0} → Result X ToolError → ℕ
search_failures (Err ReadFault) = 1
search_failures _ = 0
