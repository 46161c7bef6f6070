-- The installed entries that a source uses (tic(1)): the listing of each is a further block at the
-- end of the source.
use Rattle.std.specs.Prelude.{◌≡◌, ◌≢◌, ◌⊎◌, ℕ, Bool, true, false, List, [], ◌∷◌, ◌++◌, length, map, All, Option, Some, None, Result, Ok, Err}
use Rattle.std.specs.Prelude.{if◌then◌else◌}
use Rattle.std.specs.Global.{Vec}
use Rattle.std.specs.List.{flat_map}
use Rattle.std.specs.Option.{option_to_list}
use Rattle.std.specs.String.{string_bytes}
use Rattle.ti_source.specs.Header.{is_lookup_name}
use Rattle.ti_source.specs.declared.code.Code.{Code}
use Rattle.ti_source.specs.declared.code.Code.TheVariants.{MissingUse}
use Rattle.ti_source.specs.declared.parsing.Rule.{Rule}
use Rattle.base_meaning.specs.Edits.{IsSoundEdit, insertion}
use Rattle.base_meaning.specs.Faults.{SourceFault, fault_seen, faults}
use Rattle.base_meaning.specs.Owner.{owner, readings}
use Rattle.base_meaning.specs.Readings.{readings_by}
use Rattle.base_meaning.specs.Usable.{IsPlaced}
use Rattle.base_meaning.specs.declared.faults.Fault.{Fault}
use Rattle.tools_devices.specs.Tree.{FileAt, Files}
use Rattle.tools_directories.specs.Finding.{Finds}
use Rattle.tools_directories.specs.Paths.{paths_of}
use Rattle.everyday_sources.specs.Installed.{Gives}
use Rattle.everyday_sources.specs.declared.problem.Cause.{Cause}
use Rattle.everyday_sources.specs.declared.problem.Cause.TheVariants.{NoRoom}
use Rattle.everyday_sources.specs.declared.problem.Problem.{Problem}

-- ---- the names

-- whether a code is that of a use whose name no block has
abbrev pub is_missing : Code → Bool
is_missing MissingUse = true
is_missing _ = false

-- the name that an item uses and no block has, if a fault is that of such an item
abbrev pub missing_name : SourceFault → List (List ℕ)
missing_name fault = if is_missing fault.code then option_to_list fault.detail else []

-- the names that items use and no block has, in the order of the faults
abbrev pub missing_names : Rule → List (List ℕ) → List (List ℕ)
missing_names rule texts = flat_map missing_name (faults (readings_by rule texts))

-- ---- what is found and taken

-- a file whose entry is not taken, as plain data
pub record ProblemSeen : Type 0 where
  pub path : List ℕ
  pub cause : Cause

-- one that holds its path in memory, as plain data
abbrev pub problem_seen : Problem → ProblemSeen
problem_seen problem = record { path = string_bytes problem.path; cause = problem.cause }

-- what a search for the entry of a name found, by the failures that the tree counts before and
-- after: none is looked for by what is not a lookup name
abbrev pub LooksUp : Option Files → List (List ℕ) → List ℕ → ℕ → ℕ → Option FileAt → Type 0
LooksUp files directories name before after (Some file) = (is_lookup_name name ≡ true) × Finds files (paths_of name directories) before after (Some file)
LooksUp files directories name before after None =
    ((is_lookup_name name ≡ false) × (after ≡ before)) ⊎ ((is_lookup_name name ≡ true) × Finds files (paths_of name directories) before after None)

-- A text is put at the end of a list of texts, if nothing is wrong with that; else the file that it
-- is of is a problem.
abbrev pub PutsIn : List (List ℕ) → List ℕ → List ℕ → List (List ℕ) → List ProblemSeen → Type 0
PutsIn texts path text next problems =
    (IsSoundEdit texts (insertion (length texts) text) × (next ≡ texts ++ text ∷ []) × (problems ≡ []))
    ⊎ ((¬ IsSoundEdit texts (insertion (length texts) text)) × (next ≡ texts) × (problems ≡ record { path = path; cause = NoRoom } ∷ []))

-- what a file gives is taken
abbrev pub TakesGiven : List (List ℕ) → List ℕ → Result (List ℕ) Cause → List (List ℕ) → List ProblemSeen → Type 0
TakesGiven texts path (Ok text) next problems = PutsIn texts path text next problems
TakesGiven texts path (Err why) next problems = (next ≡ texts) × (problems ≡ record { path = path; cause = why } ∷ [])

-- what was found by a name is taken
abbrev pub TakesFound : Bool → List (List ℕ) → List ℕ → Option FileAt → List (List ℕ) → List ProblemSeen → Type 0
TakesFound user_defined texts name None next problems = (next ≡ texts) × (problems ≡ [])
TakesFound user_defined texts name (Some file) next problems =
    (given : Result (List ℕ) Cause) × Gives user_defined file.1 name given × TakesGiven texts file.0 given next problems

-- The entry of a name is looked for and taken, unless a block has the name by now: so the same entry
-- is taken once.
abbrev pub TakesName : Bool → Option Files → List (List ℕ) → List (List ℕ) → List ℕ → ℕ → ℕ → List (List ℕ) → List ProblemSeen → Type 0
TakesName user_defined files directories texts name before after next problems =
    ((owner (readings texts) name ≢ None) × (next ≡ texts) × (after ≡ before) × (problems ≡ []))
    ⊎ ((owner (readings texts) name ≡ None) × (found : Option FileAt) × LooksUp files directories name before after found
    × TakesFound user_defined texts name found next problems)

-- so of these names, one after another: the texts and the problems after them
abbrev pub TakesNames : Bool → Option Files → List (List ℕ) → List (List ℕ) → List (List ℕ) → ℕ → ℕ → List (List ℕ) → List ProblemSeen → Type 0
TakesNames user_defined files directories texts [] before after last problems = (last ≡ texts) × (after ≡ before) × (problems ≡ [])
TakesNames user_defined files directories texts (name ∷ names) before after last problems =
    (next : List (List ℕ)) × (between : ℕ) × (first : List ProblemSeen) × (others : List ProblemSeen)
    × TakesName user_defined files directories texts name before between next first
    × TakesNames user_defined files directories next names between after last others
    × (problems ≡ first ++ others)

-- the source, read by a rule, with the entries that it uses, and the problems with their files
abbrev pub TakesUsed : Rule → Bool → Option Files → List (List ℕ) → List (List ℕ) → ℕ → ℕ → List (List ℕ) → List ProblemSeen → Type 0
TakesUsed rule user_defined files directories texts before after last problems =
    TakesNames user_defined files directories texts (missing_names rule texts) before after last problems

-- ---- the faults

-- faults in memory are those of these blocks
abbrev pub AreFaults : Rule → List (List ℕ) → List Fault → Type 0
AreFaults rule texts found = (map fault_seen found ≡ faults (readings_by rule texts)) × All (IsPlaced (length texts)) (map fault_seen found)

-- the faults of the blocks of a source are given exactly if none was put after them
abbrev pub KeepsFaults : Rule → List (List ℕ) → List (List ℕ) → Option (Vec Fault) → Type 0
KeepsFaults rule texts last (Some found) = (length last ≡ length texts) × AreFaults rule last found.items
KeepsFaults rule texts last None = length last ≢ length texts

-- ---- laws

-- A name that a block of a source has belongs to the same block with further blocks at the end.
abbrev pub OwnNamesWin : Type 0
OwnNamesWin =
    (texts others : List (List ℕ)) (name : List ℕ) (at : ℕ) → owner (readings texts) name ≡ Some at → owner (readings (texts ++ others)) name ≡ Some at

-- The blocks of the source come first, whatever is found.
abbrev pub SourcesComeFirst : Type 0
SourcesComeFirst =
    (rule : Rule) (user_defined : Bool) (files : Option Files) (directories texts : List (List ℕ)) (before after : ℕ) (last : List (List ℕ))
    (problems : List ProblemSeen)
    → TakesUsed rule user_defined files directories texts before after last problems → (others : List (List ℕ)) × (last ≡ texts ++ others)

-- Of a source, with directories and files that are known and with no read that failed, there is only
-- one list of blocks with the entries that it uses, and only one list of problems with their files.
abbrev pub UsedEntriesAreDetermined : Type 0
UsedEntriesAreDetermined =
    (rule : Rule) (user_defined : Bool) (files : Files) (directories texts : List (List ℕ)) (before since : ℕ) (one other : List (List ℕ))
    (problems others : List ProblemSeen)
    → TakesUsed rule user_defined (Some files) directories texts before before one problems
    → TakesUsed rule user_defined (Some files) directories texts since since other others → (one ≡ other) × (problems ≡ others)
