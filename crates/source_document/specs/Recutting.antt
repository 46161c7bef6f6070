-- Where a text can be cut into blocks in two parts (own).
use Rattle.std.specs.Prelude.{ℕ, ◌≡◌, List, [], ◌++◌}
use Rattle.ti_text.specs.Ascii as ascii
use Rattle.ti_source.specs.Cutting.{blocks_from_head, front_of, last_byte}

-- cutting is local: where a line ends, and a block or nothing begins, what is before and what is after
-- are cut apart
abbrev pub CuttingIsLocal : Type 0
CuttingIsLocal =
    (before after : List ℕ) → last_byte ascii.newline before ≡ ascii.newline → front_of ascii.newline after ≡ []
    → blocks_from_head ascii.newline (before ++ after) ≡ blocks_from_head ascii.newline before ++ blocks_from_head ascii.newline after
