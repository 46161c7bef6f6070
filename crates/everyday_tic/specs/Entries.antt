-- The files of the entries of a source (term(5), "Storage location"; tic(1)).
use Rattle.std.specs.Prelude.{◌≡◌, ℕ, ◌==◌, Bool, true, false, not, List, [], length, count_by, Option, option_and_then, slice_get}
use Rattle.std.specs.Prelude.{if◌then◌else◌}
use Rattle.std.specs.List.{flat_map, range_with_len}
use Rattle.std.specs.Option.{option_map_or}
use Rattle.ti_source.specs.declared.parsing.Rule.{Rule}
use Rattle.base_meaning.specs.Compiled.{EntryState}
use Rattle.tools_devices.specs.Tree.{FileAt}
use Rattle.tools_sources.specs.EntryFiles.{entry_files, names_at}
use Rattle.user_compiling.specs.Entries.{AreStatesBy, entry_in}
use Rattle.user_compiling.specs.Laws.{profile_states_by}
use Rattle.everyday_sources.specs.Selection.{is_chosen}

-- what becomes of each block of a source that is read by a rule: as `user_compiling` says if
-- user-defined capabilities are kept, else as in the profile
abbrev pub BecomeThese : Rule → Bool → List (List ℕ) → List EntryState → Type 0
BecomeThese rule true texts states = AreStatesBy rule texts states
BecomeThese rule false texts states = states ≡ profile_states_by rule texts

-- the entry of the block at a position, if it has one
abbrev pub entry_at : List EntryState → ℕ → Option (List ℕ)
entry_at states at = option_and_then entry_in (slice_get states at)

-- the files of the block at a position, if it is chosen and has an entry
abbrev pub block_files : List ℕ → Option (List ℕ) → List (List ℕ) → List EntryState → ℕ → List FileAt
block_files directory asked texts states at =
    if is_chosen asked (names_at texts at) then option_map_or (entry_files directory texts at) (entry_at states at) [] else []

-- the files of the first blocks, of that many
abbrev pub first_files : List ℕ → Option (List ℕ) → List (List ℕ) → List EntryState → ℕ → List FileAt
first_files directory asked texts states count = flat_map (block_files directory asked texts states) (range_with_len 0 count)

-- how many of them have files
abbrev pub entry_count : List ℕ → Option (List ℕ) → List (List ℕ) → List EntryState → ℕ → ℕ
entry_count directory asked texts states count =
    count_by (λ at. not (length (block_files directory asked texts states at) == 0)) (range_with_len 0 count)
