-- The files of a compiled entry (term(5), "Storage location"): one for each lookup name that its
-- block owns, below a directory named by the name's first byte.
use Rattle.std.specs.Prelude.{ℕ, List, [], map, slice_get}
use Rattle.std.specs.Option.{option_map_or}
use Rattle.ti_source.specs.Reading.{Reading}
use Rattle.base_meaning.specs.OwnNames.{own_names}
use Rattle.base_meaning.specs.Owner.{readings}
use Rattle.tools_devices.specs.Paths.{path_of}
use Rattle.tools_devices.specs.Tree.{FileAt}

-- the lookup names of the block at a position
abbrev pub names_at : List (List ℕ) → ℕ → List (List ℕ)
names_at texts at = option_map_or (λ (block : Reading). block.names) (slice_get (readings texts) at) []

-- an entry's file for each of these names
abbrev pub files_for : List ℕ → List (List ℕ) → List ℕ → List FileAt
files_for directory names image = map (λ name. (path_of directory name, image)) names

-- the files of an entry of the block at a position: one for each name that it owns
abbrev pub entry_files : List ℕ → List (List ℕ) → ℕ → List ℕ → List FileAt
entry_files directory texts at image = files_for directory (own_names (readings texts) at (names_at texts at)) image
