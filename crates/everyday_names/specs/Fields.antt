-- Names fields that are too long for the profile (term(5) allows 128 bytes with the NUL), and that
-- ncurses's tic takes: up to 512 bytes (tried). The block is compiled with a part of its description.
use Rattle.std.specs.Prelude.{ℕ, ◌-◌, ◌==◌, ◌&&◌, nat_le, nat_lt, not, Bool, List, [], ◌∷◌, ◌++◌, length, take, drop, replicate, map, option_map, Option, Some, None, if◌then◌else◌}
use Rattle.std.specs.Global.{Vec}
use Rattle.std.specs.List.{list_any}
use Rattle.ti_text.specs.Ascii as ascii
use Rattle.ti_text.specs.Limits.{names_max}

-- the most bytes of a names field that `ti-tic` takes
abbrev pub long_names_max : ℕ
long_names_max = 512

-- whether a byte is in a text
abbrev pub has : ℕ → List ℕ → Bool
has byte text = list_any (λ other. other == byte) text

-- what is before the first comma of a text: of a block, its names field
abbrev pub field_of : List ℕ → List ℕ
field_of [] = []
field_of (x ∷ xs) = if x == ascii.comma then [] else x ∷ field_of xs

-- what is after the first comma
abbrev pub after_field : List ℕ → List ℕ
after_field [] = []
after_field (x ∷ xs) = if x == ascii.comma then xs else after_field xs

-- how many bytes the names may have, with the `|` after them, if one byte of the description is to be
-- within the limit of the profile
abbrev pub described : ℕ
described = names_max - 1

-- whether a names field has its names, with the `|` after the last, within them, and no `|` past them
abbrev pub is_described : List ℕ → Bool
is_described field = has ascii.bar (take described field) && not (has ascii.bar (drop described field))

-- whether a names field is over the limit of the profile and within that of `ti-tic`, is on one line,
-- and only a part of its description is past the limit of the profile
abbrev pub is_long_field : List ℕ → Bool
is_long_field field =
    nat_lt names_max (length field) && nat_le (length field) long_names_max && not (has ascii.newline field) && not (has ascii.nul field)
    && is_described field

-- whether a block has such a names field, which ends in a comma
abbrev pub is_long : List ℕ → Bool
is_long text = has ascii.comma text && is_long_field (field_of text)

-- the names field of a block, if it is such a field
abbrev pub long_field : List ℕ → Option (List ℕ)
long_field text = if is_long text then Some (field_of text) else None

-- a names field in memory, if there is one
abbrev pub field_seen : Option (Vec ℕ) → Option (List ℕ)
field_seen field = option_map (λ v. v.items) field

-- those of blocks
abbrev pub fields_seen : List (Option (Vec ℕ)) → List (Option (List ℕ))
fields_seen fields = map field_seen fields

-- as much of a names field as the profile takes, a comma, a blank in the place of each byte of the
-- rest, and what follows the field
abbrev pub part_and_blanks : List ℕ → List ℕ → List ℕ
part_and_blanks field rest = take names_max field ++ ascii.comma ∷ (replicate (length field - names_max) ascii.space ++ rest)

-- the block with that in the place of a long names field, so that all else keeps its place; any other
-- block as it is
abbrev pub fitted : List ℕ → List ℕ
fitted text = if is_long text then part_and_blanks (field_of text) (after_field text) else text
