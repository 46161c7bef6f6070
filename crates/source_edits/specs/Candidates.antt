-- The names that an item may have in place of its own (own).
use Rattle.std.specs.Prelude.{ℕ, ◌==◌, List, [], ◌∷◌, ◌++◌, if◌then◌else◌}
use Rattle.ti_text.specs.Ascii as ascii
use Rattle.ti_caps.specs.Tables.{names}
use Rattle.ti_caps.specs.declared.capability.Kind.TheVariants.{Flag, Number, Text}
use Rattle.ti_source.specs.Folding.{PlacedByte}

-- the names of all capabilities, in the order of the compiled entry
abbrev pub all_names : List (List ℕ)
all_names = names Flag ++ names Number ++ names Text

-- the names that an item may have if this is after its name: those of the kind that its sign says,
-- or of any kind if it is cancelled
abbrev pub names_for : List PlacedByte → List (List ℕ)
names_for [] = names Flag
names_for (x ∷ rest) =
    if x.0 == ascii.number_sign then names Number
    else if x.0 == ascii.equals then names Text
    else all_names
