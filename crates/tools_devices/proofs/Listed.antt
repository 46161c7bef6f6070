-- The directories that TERMINFO_DIRS lists, by the parts between its colons.
use Rattle.std.proofs.Common.{◌≡◌, ℕ, ◌+◌, ◌==◌, List, length, Some, ◌∙◌}
use Rattle.std.proofs.lemmas.Option.{slice_get-map}
use Rattle.std.proofs.lemmas.List.{length-map}
use Rattle.std.proofs.lemmas.List.Splits.{length-slice_split}
use Rattle.std.specs.List.{slice_split}
use Rattle.std.specs.Prelude.{count_by, option_map, slice_get}
use Rattle.tools_devices.specs.Searching.{listed_directories, directory_of_part}

pub listed_at_index : (dirs : List ℕ) (index : ℕ) → slice_get (listed_directories (Some dirs)) index
    ≡ option_map directory_of_part (slice_get (slice_split (λ b. b == 58) dirs) index)
listed_at_index dirs index = slice_get-map directory_of_part (slice_split (λ b. b == 58) dirs) index

pub listed_length : (dirs : List ℕ) → length (listed_directories (Some dirs)) ≡ count_by (λ b. b == 58) dirs + 1
listed_length dirs = length-map (slice_split (λ b. b == 58) dirs) directory_of_part ∙ length-slice_split (λ b. b == 58) dirs
