-- The files of the compiled entries of a source (term(5), "Storage location").
use Rattle.std.specs.Prelude.{ℕ, List, [], length}
use Rattle.std.specs.List.{flat_map, range_with_len}
use Rattle.std.specs.Option.{option_map_or}
use Rattle.base_meaning.specs.Compiled.{compiled}
use Rattle.tools_devices.specs.Tree.{FileAt}
use Rattle.tools_sources.specs.EntryFiles.{entry_files}

-- the files of the block at a position, if it has an entry
abbrev pub files_at : List ℕ → List (List ℕ) → ℕ → List FileAt
files_at dir texts at = option_map_or (entry_files dir texts at) (compiled texts at) []

-- the files of a source, given by the texts of its blocks
unfoldable pub source_files : List ℕ → List (List ℕ) → List FileAt
source_files dir texts = flat_map (files_at dir texts) (range_with_len 0 (length texts))
