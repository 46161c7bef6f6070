-- Which entries are written (tic(1), "-e"): those of the blocks that have one of the names that are
-- asked for.
use Rattle.std.specs.Prelude.{ℕ, ◌==◌, Bool, true, List, Option, Some, None}
use Rattle.std.specs.List.{list_any, slice_split}
use Rattle.ti_text.specs.Ascii as ascii
use Rattle.base_meaning.specs.Owner.{is_among}

-- the names that are asked for: those between commas
abbrev pub chosen_names : List ℕ → List (List ℕ)
chosen_names asked = slice_split (λ byte. byte == ascii.comma) asked

-- whether the entry of a block with these lookup names is written: all are if none is asked for
abbrev pub is_chosen : Option (List ℕ) → List (List ℕ) → Bool
is_chosen None names = true
is_chosen (Some asked) names = list_any (λ name. is_among name names) (chosen_names asked)
