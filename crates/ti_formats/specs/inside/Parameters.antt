-- What is found of a format's parameters by some of its tokens, with those that follow (own).
use Rattle.std.specs.Prelude.{ℕ, ◌+◌, ◌-◌, max, min, Bool, false, ◌&&◌, ◌||◌, ◌==◌, suc, List, slice_index_or}
use Rattle.ti_text.specs.Limits.{parameters_max}
use Rattle.ti_formats.specs.declared.codes.Placed.{Placed}
use Rattle.ti_formats.specs.declared.taken.Found.{Found}
use Rattle.ti_formats.specs.Parameters.{named_in, begins_with_taker, is_string_in, popped_in}

-- the greatest number of a parameter that is pushed
abbrev pub named_with : Found → List Placed → ℕ
named_with found tokens = max found.named (named_in tokens)

-- whether the parameter at a place is a string
abbrev pub string_with : Found → ℕ → List Placed → Bool
string_with found i tokens = (slice_index_or found.strings i false || (found.last == suc i && begins_with_taker tokens)) || is_string_in i tokens

-- how many values are popped that were not pushed
abbrev pub popped_with : Found → List Placed → ℕ
popped_with found tokens = min (found.popped + (popped_in tokens - found.height)) parameters_max
