-- The files of entries, block by block.
use Rattle.std.proofs.Common.{◌≡◌, ℕ, List, length, ap, ◌∙◌}
use Rattle.std.specs.List.{flat_map, range_with_len}
use Rattle.tools_devices.specs.Tree.{FileAt}
use Rattle.ti_tools.specs.EntryFiles.{files_at, source_files}

-- past the last block, all files are there
pub filed_to_end : (dir : List ℕ) (texts : List (List ℕ)) (files : List FileAt) (at : ℕ) → at ≡ length texts
    → files ≡ flat_map (files_at dir texts) (range_with_len 0 at) → files ≡ source_files dir texts
unfolding source_files
filed_to_end dir texts files at past filed = filed ∙ ap (λ n. flat_map (files_at dir texts) (range_with_len 0 n)) past
