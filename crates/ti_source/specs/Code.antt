-- The codes and names of faults, as a report writes them (own).
use Rattle.ti_text.specs.Ascii as ascii
use Rattle.std.specs.Prelude.{ℕ, Bool, true, false, List, ◌∷◌, ◌++◌, codes}
use Rattle.ti_source.specs.declared.code.Code.{Code}
use Rattle.ti_source.specs.declared.code.Code.TheVariants.{BadHeader, NamesTooLong, BadNumber, NumberTooLarge, BadString, MissingUse, Circular, Unresolved}
use Rattle.ti_source.specs.declared.code.Code.TheVariants.{TooLarge, UnknownCapability, WrongKind, UnknownEscape, DuplicateName}

-- the label of a code: `E` and a digit for an error, `W` and a digit for a warning
abbrev pub label_of : Code → List ℕ
label_of BadHeader = codes "E1"
label_of NamesTooLong = codes "E2"
label_of BadNumber = codes "E3"
label_of NumberTooLarge = codes "E4"
label_of BadString = codes "E5"
label_of MissingUse = codes "E6"
label_of Circular = codes "E7"
label_of Unresolved = codes "E8"
label_of TooLarge = codes "E9"
label_of UnknownCapability = codes "W1"
label_of WrongKind = codes "W2"
label_of UnknownEscape = codes "W3"
label_of DuplicateName = codes "W4"

-- the name of a code, in one word
abbrev pub code_name : Code → List ℕ
code_name BadHeader = codes "BadHeader"
code_name NamesTooLong = codes "NamesTooLong"
code_name BadNumber = codes "BadNumber"
code_name NumberTooLarge = codes "NumberTooLarge"
code_name BadString = codes "BadString"
code_name MissingUse = codes "MissingUse"
code_name Circular = codes "Circular"
code_name Unresolved = codes "Unresolved"
code_name TooLarge = codes "TooLarge"
code_name UnknownCapability = codes "UnknownCapability"
code_name WrongKind = codes "WrongKind"
code_name UnknownEscape = codes "UnknownEscape"
code_name DuplicateName = codes "DuplicateName"

-- whether a code is an error, which keeps an entry from being compiled; the other codes are
-- warnings. The label of an error begins with `E`.
abbrev pub is_error : Code → Bool
is_error UnknownCapability = false
is_error WrongKind = false
is_error UnknownEscape = false
is_error DuplicateName = false
is_error _ = true

-- whether a code is of a names field
abbrev pub is_of_header : Code → Bool
is_of_header BadHeader = true
is_of_header NamesTooLong = true
is_of_header _ = false

-- a code as it is printed: its label, a space and its name
abbrev pub code_text : Code → List ℕ
code_text code = label_of code ++ ascii.space ∷ code_name code
