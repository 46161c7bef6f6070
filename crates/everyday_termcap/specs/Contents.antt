-- What an entry has of the capabilities of termcap. Where termcap has a capability that terminfo no
-- longer has, ncurses takes it from others (its `capdefaults.c`).
use Rattle.std.specs.Prelude.{ℕ, ◌+◌, ◌==◌, nat_le, Bool, true, false, ◌&&◌, ◌||◌, not, if◌then◌else◌, List, [], codes, bytes_eq, slice_index}
use Rattle.std.specs.Prelude.{Option, Some, None}
use Rattle.std.specs.Option.{option_and_then}
use Rattle.ti_text.specs.Ascii as ascii
use Rattle.ti_text.specs.Ascii.{byte_of}
use Rattle.ti_caps.specs.declared.capability.Kind.{Kind}
use Rattle.ti_caps.specs.declared.capability.Kind.TheVariants.{Flag, Number, Text}
use Rattle.ti_layout.specs.Values.{Content, content_true, content_number, content_text, Contents}
use Rattle.ti_names.specs.Names.{capability_of_code}
use Rattle.everyday_termcap.specs.declared.contents.Kept.{Kept}

-- what an entry has by a code
abbrev pub said : Contents → Kind → List ℕ → Option Content
said table kind code = option_and_then table (capability_of_code kind code)

-- a boolean, a number and a string
abbrev pub is_set : Option Content → Bool
is_set (Some content_true) = true
is_set _ = false

abbrev pub number_in : Option Content → Option ℕ
number_in (Some (content_number n)) = Some n
number_in _ = None

abbrev pub text_in : Option Content → Option (List ℕ)
text_in (Some (content_text t)) = Some t
text_in _ = None

abbrev pub text_said : Contents → List ℕ → Option (List ℕ)
text_said table code = text_in (said table Text code)

-- whether there is one, and whether it is this one
abbrev pub is_there : {T : Type 0} → Option T → Bool
is_there None = false
is_there (Some x) = true

abbrev pub is_text : Option (List ℕ) → List ℕ → Bool
is_text None other = false
is_text (Some t) other = bytes_eq t other

-- one, or else the other
abbrev pub or_else : {T : Type 0} → Option T → Option T → Option T
or_else (Some x) other = Some x
or_else None other = other

-- whether two strings are there and equal
abbrev pub are_same : Option (List ℕ) → Option (List ℕ) → Bool
are_same one None = false
are_same one (Some t) = is_text one t

-- ---- booleans and numbers

-- `NL`, that a line feed begins a line, is that `nel` is one
abbrev pub flag_shown : Contents → List ℕ → Bool
flag_shown table code =
    if bytes_eq code (codes "NL") then is_text (text_said table (codes "nw")) (codes "\n") else is_set (said table Flag code)

-- `ug`, the blanks that underlining leaves, is `xmc` if there is underlining
abbrev pub underline_blanks : Contents → Option ℕ
underline_blanks table =
    or_else (number_in (said table Number (codes "ug")))
    (if is_there (text_said table (codes "us")) then number_in (said table Number (codes "sg")) else None)

abbrev pub number_shown : Contents → List ℕ → Option ℕ
number_shown table code = if bytes_eq code (codes "ug") then underline_blanks table else number_in (said table Number code)

-- ---- strings

-- `i2`, the second start of older entries, is `is3`
abbrev pub second_start : Contents → Option (List ℕ)
second_start table = or_else (text_said table (codes "i2")) (text_said table (codes "i3"))

-- `rs`, the only reset of older entries, is `rs2` where that is the only one
abbrev pub only_reset : Contents → Option (List ℕ)
only_reset table =
    or_else (text_said table (codes "rs"))
    (if is_there (text_said table (codes "r1")) || is_there (text_said table (codes "r3")) then None else text_said table (codes "r2"))

-- `rs2` is left where `rs` did not take it
abbrev pub second_reset : Contents → Option (List ℕ)
second_reset table =
    if is_there (text_said table (codes "rs")) || (is_there (text_said table (codes "r1")) || is_there (text_said table (codes "r3")))
    then text_said table (codes "r2") else None

-- `i3` is left where `i2` did not take it, and where it is not the reset
abbrev pub third_start : Contents → Option (List ℕ)
third_start table =
    if is_there (text_said table (codes "i2")) && not (are_same (only_reset table) (text_said table (codes "i3")))
    then text_said table (codes "i3") else None

-- `im` and `ei` are there, but empty, where a character is inserted without a mode: older versions of
-- vi want them
abbrev pub inserting : Contents → List ℕ → Option (List ℕ)
inserting table code =
    or_else (text_said table code)
    (if is_there (text_said table (codes "ic")) || is_there (text_said table (codes "IC")) then Some [] else None)

-- whether a code is that of a function key that is left out
abbrev pub is_lost_key : ℕ → List ℕ → Bool
is_lost_key keys code =
    slice_index code 0 == byte_of "k" && (nat_le ascii.digit_0 (slice_index code 1) && (nat_le (slice_index code 1) ascii.digit_9
    && nat_le (ascii.digit_0 + keys) (slice_index code 1)))

-- whether a code is left out
abbrev pub is_left_out : Kept → List ℕ → Bool
is_left_out kept code =
    is_lost_key kept.keys code || ((bytes_eq code (codes "sa") && not kept.graphics)
    || (((bytes_eq code (codes "as") || bytes_eq code (codes "ae")) && not kept.sets)
    || (bytes_eq code (codes "ac") && not kept.characters)))

-- what an entry has by the code of a string, given its `me`
abbrev pub text_shown : Contents → Kept → (plain : Option (List ℕ)) → List ℕ → Option (List ℕ)
text_shown table kept plain code =
    if is_left_out kept code then None
    else (if bytes_eq code (codes "me") then plain
    else (if bytes_eq code (codes "i2") then second_start table
    else (if bytes_eq code (codes "i3") then third_start table
    else (if bytes_eq code (codes "rs") then only_reset table
    else (if bytes_eq code (codes "r2") then second_reset table
    else (if bytes_eq code (codes "im") || bytes_eq code (codes "ei") then inserting table code
    else text_said table code))))))
