-- What is wrong with the format of a string that takes parameters (terminfo(5), "Parameterized
-- Strings"), with the code that is quoted.
use Prim.Native.String.{String}
use Rattle.ti_text.specs.Ascii as ascii
use Rattle.std.specs.Prelude.{ℕ, ◌+◌, ◌-◌, ◌==◌, ◌&&◌, ◌||◌, not, bytes_eq, codes, Bool, false, List, [], ◌∷◌, count_by, take, nat_lt, Option, None, Some, Ok, Err}
use Rattle.std.specs.Prelude.{Result, if◌then◌else◌}
use Rattle.std.specs.List.{list_any}
use Rattle.std.specs.Option.{is_none, option_map}
use Rattle.ti_caps.specs.Tables.{capability, name_of}
use Rattle.ti_caps.specs.declared.capability.Kind.TheVariants.{Text}
use Rattle.ti_formats.specs.declared.codes.Placed.{Placed}
use Rattle.ti_formats.specs.Left.{left_of}
use Rattle.ti_formats.specs.Parameters.{number_named}
use Rattle.ti_formats.specs.Reading.{Scan}
use Rattle.ti_spelling.specs.declared.spelling.UnescapeError.{UnescapeError}
use Rattle.ti_spelling.specs.inside.Spelling.{unescape_result}
use Rattle.source_block_hints.specs.Counts.{parameter_count}
use Rattle.source_block_hints.specs.declared.found.Found.{Found}
use Rattle.source_block_hints.specs.declared.hint.HintKind.{HintKind}
use Rattle.source_block_hints.specs.declared.hint.HintKind.TheVariants.{WrongFormat, ForeignParameter, UnusedParameter}

-- ---- the format

-- a value that was read, nothing if it could not be
abbrev pub value_or_nothing : Result (List ℕ × Bool) UnescapeError → List ℕ
value_or_nothing (Ok found) = found.0
value_or_nothing (Err cause) = []

-- the value that a text spells, nothing if it spells none
abbrev pub value_of : List ℕ → List ℕ
value_of raw = value_or_nothing (unescape_result raw)

-- a format as it is read: its tokens up to where it is stuck
abbrev pub reading_of : List ℕ → Scan
reading_of format = left_of (record { place = 0; text = format; phases = [] })

-- ---- the code that is quoted

-- where the byte of this number is in a text that begins at this offset, among those that are this
-- byte and counted from 0
abbrev pub nth_from : ℕ → ℕ → ℕ → List ℕ → Option ℕ
nth_from byte left at [] = None
nth_from byte left at (x ∷ xs) =
    if x == byte then (if left == 0 then Some at else nth_from byte (left - 1) (at + 1) xs) else nth_from byte left (at + 1) xs

-- how many bytes of a text are this
abbrev pub count_of : ℕ → List ℕ → ℕ
count_of byte text = count_by (λ b. b == byte) text

-- what is found, with so many bytes of the text from there on
abbrev pub found_with : HintKind → ℕ → Option ℕ → Found
found_with kind len None = record { kind = kind; part = record { start = 0; end = 0 } }
found_with kind len (Some at) = record { kind = kind; part = record { start = at; end = at + len } }

-- what is found at a `%` of a value, quoted from the `%` of the same number in the text that spells
-- it, which begins at this offset
abbrev pub found_at : HintKind → ℕ → ℕ → List ℕ → List ℕ → ℕ → Found
found_at kind len from raw value place =
    found_with kind len (nth_from ascii.percent (count_of ascii.percent (take place value)) from raw)

-- ---- what is wrong

-- the name of the string of an index; nothing if there is no such string
abbrev pub string_name : ℕ → List ℕ
string_name index = name_of (capability Text index)

-- the user strings, which are no formats: curses does not expand them
abbrev pub user_strings : List String
user_strings = "u0" ∷ "u1" ∷ "u2" ∷ "u3" ∷ "u4" ∷ "u5" ∷ "u6" ∷ "u7" ∷ "u8" ∷ "u9" ∷ []

-- whether a name is that of a user string
abbrev pub is_user_name : List ℕ → Bool
is_user_name name = list_any (λ user. bytes_eq name (codes user)) user_strings

-- whether the string of an index is one
abbrev pub is_user_string : ℕ → Bool
is_user_string index = is_user_name (string_name index)

-- whether the string of an index is a format: it takes parameters, and is no user string
abbrev pub is_format : ℕ → Bool
is_format index = nat_lt 0 (parameter_count index) && not (is_user_string index)

-- the format is stuck: `%` and a letter are quoted
abbrev pub wrong_found : ℕ → ℕ → List ℕ → List ℕ → Option Found
wrong_found index from raw value =
    if is_format index then option_map (found_at WrongFormat 2 from raw value) (reading_of value).stop else None

-- where the first token is that pushes a parameter over this number
abbrev pub foreign_in : ℕ → List Placed → Option ℕ
foreign_in count [] = None
foreign_in count (p ∷ tokens) = if nat_lt count (number_named p.token) then Some p.place else foreign_in count tokens

-- the first parameter that the capability does not have: `%p` and its digit are quoted. A string
-- without parameters may not use one.
abbrev pub foreign_found : ℕ → ℕ → List ℕ → List ℕ → Option Found
foreign_found index from raw value =
    option_map (found_at ForeignParameter 3 from raw value) (foreign_in (parameter_count index) (reading_of value).tokens)

-- whether a token pushes the parameter of this number
abbrev pub names_parameter : ℕ → List Placed → Bool
names_parameter number [] = false
names_parameter number (p ∷ tokens) = number_named p.token == number || names_parameter number tokens

-- whether a whole format leaves the first or the second parameter unused
abbrev pub leaves_one : Scan → Bool
leaves_one reading = is_none reading.stop && not (names_parameter 1 reading.tokens && names_parameter 2 reading.tokens)

-- whether the string of an index is `cup`
abbrev pub is_cursor_address : ℕ → Bool
is_cursor_address index = bytes_eq (string_name index) (codes "cup")

-- one of the two parameters of `cup` is not used; nothing is quoted
abbrev pub unused_found : ℕ → List ℕ → Option Found
unused_found index value =
    if is_cursor_address index && leaves_one (reading_of value) then Some (found_with UnusedParameter 0 None) else None
