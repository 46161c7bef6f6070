-- Trees of files. If it is known what a tree holds, it is a map from paths to bytes. Of a real disk
-- this is not known, so what a tree holds is an option of such a map. (own)
use Rattle.std.specs.Prelude.{◌≡◌, ◌≢◌, ◌≤◌, ℕ, List, [], ◌∷◌, Option, Some, None, Result, Ok, Err, length, take, drop, option_map}
use Rattle.std.specs.Map.{update}
use Rattle.std.specs.Str.{bytes_eq}
use Rattle.tools_devices.specs.declared.tree.TreeFault.{TreeFault}
use Rattle.tools_devices.specs.declared.tree.TreeFault.TheVariants.{Failed, Memory}

-- the bytes of the file at each path, none if there is no such file
abbrev pub Files : Type 0
Files = List ℕ → Option (List ℕ)

-- a path and the bytes at it
abbrev pub FileAt : Type 0
FileAt = List ℕ × List ℕ

-- the files with these bytes at this path
abbrev pub with_file : Files → List ℕ → List ℕ → Files
with_file files path bytes = update bytes_eq files path (Some bytes)

-- no file
abbrev pub IsBare : Files → Type 0
IsBare files = (path : List ℕ) → files path ≡ None

-- the bytes of the entry are at its path afterwards, and each other path holds what it held before
abbrev pub Sets : FileAt → Option Files → Option Files → Type 0
Sets entry None new = Unit {0}
Sets entry (Some old) None = ⊥
Sets entry (Some old) (Some new) = (path : List ℕ) → new path ≡ with_file old entry.0 entry.1 path

-- every path but this one holds what it held before
abbrev pub ChangesOnly : List ℕ → Option Files → Option Files → Type 0
ChangesOnly at None new = Unit {0}
ChangesOnly at (Some old) None = ⊥
ChangesOnly at (Some old) (Some new) = (path : List ℕ) → path ≢ at → new path ≡ old path

-- what was found at the path: its first `count` bytes, or none if there is no such file
abbrev pub FindsFile : List ℕ → ℕ → Option Files → Option (List ℕ) → Type 0
FindsFile path count None found = Unit {0}
FindsFile path count (Some files) found = found ≡ option_map (take count) (files path)

-- a file that was found has at most this number of bytes, even if it is not known what the tree
-- holds
abbrev pub HasAtMost : ℕ → Option (List ℕ) → Type 0
HasAtMost count None = Unit {0}
HasAtMost count (Some bytes) = length bytes ≤ count

-- each entry was written, one after the other
abbrev pub Writes : List FileAt → Option Files → Option Files → Type 0
Writes [] old new = new ≡ old
Writes (entry ∷ entries) old new = (mid : Option Files) × Sets entry old mid × Writes entries mid new

-- the first `count` entries were written, and of the rest at most the path of the next one changed
abbrev pub WritesUpTo : ℕ → List FileAt → Option Files → Option Files → Type 0
WritesUpTo count entries old new = (mid : Option Files) × (next : FileAt) × (rest : List FileAt)
    × (drop count entries ≡ next ∷ rest) × Writes (take count entries) old mid
    × ChangesOnly next.0 mid new

-- ---- failures

-- a fault of what holds the files is one failure, and `Memory` is none
abbrev pub failures_by : TreeFault → ℕ
failures_by Failed = 1
failures_by Memory = 0

-- the failures of a call, by its answer
abbrev pub failures_in : {X : Type 0} → Result X TreeFault → ℕ
failures_in (Ok x) = 0
failures_in (Err fault) = failures_by fault
