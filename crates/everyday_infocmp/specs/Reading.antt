-- The files of the names that are asked for, read one after another (infocmp(1), -A and -B).
use Rattle.std.specs.Prelude.{◌≡◌, ℕ, ◌+◌, List, [], ◌∷◌, Option, Some, None, Result, Ok, Err}
use Rattle.tools_devices.specs.Tree.{Files}
use Rattle.tools_directories.specs.declared.finding.Found.{Found}
use Rattle.everyday_entries.specs.Files.{AnswersEither, is_path}
use Rattle.everyday_entries.specs.declared.failure.Failure.{Failure}

-- a name, and the directories in which its entry is looked for
pub record Sought : Type 0 where
  pub name : List ℕ
  pub directories : List (List ℕ)

-- the same, by its parts
abbrev pub sought : List ℕ → List (List ℕ) → Sought
sought name directories = record { name = name; directories = directories }

-- the directories for a name: the only one for it, if that is given
abbrev pub directories_for : Option (List ℕ) → List (List ℕ) → List (List ℕ)
directories_for None directories = directories
directories_for (Some only) directories = only ∷ []

-- each name with the directories for it: there may be an only one for the first name, and one for
-- the others
abbrev pub sought_names : List (List ℕ) → Option (List ℕ) → Option (List ℕ) → List (List ℕ) → List Sought
sought_names [] first other directories = []
sought_names (name ∷ names) first other directories = sought name (directories_for first directories) ∷ sought_names names other other directories

-- what is answered to one of them, by how many reads failed
abbrev pub AnswersSought : Option Files → Sought → ℕ → Result Found Failure → Type 0
AnswersSought files s failures result = AnswersEither (is_path s.name) files s.name s.directories failures result

-- The files that are read of names, one after another, by how many reads failed, and why the next
-- cannot be had, if there is a next.
pub data ReadsFiles (files : Option Files) : List Sought → ℕ → List Found → Option Failure → Type 0 where
  no_name : ReadsFiles files [] 0 [] None
  read : {s : Sought} {names : List Sought} {found : Found} {later : List Found} {stop : Option Failure} (failures later_failures : ℕ) →
      AnswersSought files s failures (Ok found) → ReadsFiles files names later_failures later stop →
      ReadsFiles files (s ∷ names) (failures + later_failures) (found ∷ later) stop
  missed : {s : Sought} {names : List Sought} {failures : ℕ} {failure : Failure} → AnswersSought files s failures (Err failure) →
      ReadsFiles files (s ∷ names) failures [] (Some failure)

-- why a reading stopped, if it did
abbrev pub stop_of : {T : Type 0} → Result T Failure → Option Failure
stop_of (Ok done) = None
stop_of (Err failure) = Some failure

-- ---- the same, by the failures that the tree counts before and after

-- to one name
abbrev pub GivesSought : Option Files → List ℕ → List (List ℕ) → ℕ → ℕ → Result Found Failure → Type 0
GivesSought files name directories before after result =
    (failures : ℕ) × (after ≡ before + failures) × AnswersSought files (sought name directories) failures result

-- to all names
abbrev pub GivesFiles : Option Files → List Sought → ℕ → ℕ → List Found → Option Failure → Type 0
GivesFiles files names before after found stop = (failures : ℕ) × (after ≡ before + failures) × ReadsFiles files names failures found stop
