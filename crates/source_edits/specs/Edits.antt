-- What is offered against the fault of an item, as edits of its block (own): which names are near,
-- the sign of another kind, and the spelling that reads back.
use Rattle.std.specs.Prelude.{ℕ, suc, ◌==◌, ◌&&◌, is_ok, nat_le, nat_lt, Bool, false, true, List, [], ◌∷◌, codes, length, map, Option, None, Some, if◌then◌else◌}
use Rattle.std.specs.List.{list_all}
use Rattle.std.specs.Option.{option_map_or}
use Rattle.std.specs.String.{string_bytes}
use Rattle.ti_text.specs.Ascii as ascii
use Rattle.ti_text.specs.Texts.{is_empty, last_byte}
use Rattle.ti_caps.specs.Tables.{Capability, capability_named}
use Rattle.ti_caps.specs.declared.capability.Kind.{Kind}
use Rattle.ti_caps.specs.declared.capability.Kind.TheVariants.{Flag, Number, Text}
use Rattle.ti_spelling.specs.Spelling.{spelling_of}
use Rattle.ti_spelling.specs.inside.Numbers.{number_read}
use Rattle.ti_source.specs.Folding.{PlacedByte}
use Rattle.ti_source.specs.Items.{bytes}
use Rattle.ti_source.specs.declared.code.Code.{Code}
use Rattle.ti_source.specs.declared.code.Code.TheVariants as code
use Rattle.source_spans.specs.Parts.{spanned}
use Rattle.source_spans.specs.declared.parts.Part.{Part}
use Rattle.source_edits.specs.Candidates.{names_for}
use Rattle.source_edits.specs.Carets.{can_be_read, healing_caret}
use Rattle.source_edits.specs.Nearest.{nearest}
use Rattle.source_edits.specs.Pieces.{after_name, value_of, without_last, written_name}
use Rattle.source_edits.specs.Shown.{shown}
use Rattle.source_edits.specs.declared.edits.Advice.{Advice}
use Rattle.source_edits.specs.declared.edits.Advice.TheVariants as advice
use Rattle.source_edits.specs.declared.edits.Edit.{Edit}

-- what is advised, as plain data: another name in place of this one, the sign of a kind, the string
-- as it is read, or a backslash before a `^`
pub data AdviceSeen : Type 0 where
  advises_name : (name other : List ℕ) → AdviceSeen
  advises_sign : Kind → AdviceSeen
  advises_spelling : AdviceSeen
  advises_caret : AdviceSeen

-- an edit of a block as plain data: what is advised, the part that is exchanged, and its new text
pub record EditSeen : Type 0 where
  pub advice : AdviceSeen
  pub part : Part
  pub text : List ℕ

-- advice that holds its name in memory, as plain data
abbrev pub advice_seen : Advice → AdviceSeen
advice_seen (advice.Name name other) = advises_name (string_bytes name) (string_bytes other)
advice_seen (advice.Sign kind) = advises_sign kind
advice_seen advice.Spelling = advises_spelling
advice_seen advice.Caret = advises_caret

-- whether advice is certain: it is the one way to heal what it is against, and keeps what the item
-- is about. Another name is a guess, and an odd escape (W3) is healed without its backslash or with
-- two.
abbrev pub is_certain : AdviceSeen → Bool
is_certain (advises_name name other) = false
is_certain (advises_sign kind) = true
is_certain advises_spelling = false
is_certain advises_caret = true

-- an edit that holds its texts in memory, as plain data
abbrev pub edit_seen : Edit → EditSeen
edit_seen edit = record { advice = advice_seen edit.advice; part = edit.part; text = string_bytes edit.text }

-- ---- another name

-- another name in place of one that is in that part
abbrev pub rename : List ℕ → Part → List ℕ → EditSeen
rename name part other = record { advice = advises_name (shown name) (shown other); part = part; text = shown other }

-- the nearest of some names in place of one that is in that part
abbrev pub renames_in : List ℕ → List (List ℕ) → Option Part → List EditSeen
renames_in name others None = []
renames_in name others (Some part) = map (rename name part) (nearest name others)

-- the nearest of some names in place of one
abbrev pub renames : List PlacedByte → List (List ℕ) → List EditSeen
renames name others = renames_in (bytes name) others (spanned name)

-- the nearest names of capabilities in place of that of an item
abbrev pub known_names : List PlacedByte → List EditSeen
known_names item = renames (written_name item) (names_for (after_name item))

-- ---- the sign of another kind

-- `0` to `9`
abbrev pub is_digit : ℕ → Bool
is_digit byte = nat_le ascii.digit_0 byte && nat_le byte ascii.digit_9

-- whether a value is a number in digits
abbrev pub is_number : List ℕ → Bool
is_number value = list_all is_digit value && is_ok (number_read value)

-- what takes the place of the sign before a value if that spells a string
abbrev pub text_sign : List ℕ → Option (List ℕ)
text_sign raw = if can_be_read raw then Some (codes "=") else None

-- what takes the place of the sign before a value so that a capability of a kind is read with it, by
-- the value without the white space at its end, and as it is: nothing before no value, if it is a
-- boolean; `#` before a number in digits, if it is a number; `=` before what spells a string, if it is
-- a string
abbrev pub sign_for : Kind → (value raw : List ℕ) → Option (List ℕ)
sign_for Flag value raw = if is_empty value then Some [] else None
sign_for Number value raw = if is_number value then Some (codes "#") else None
sign_for Text value raw = if is_empty value then None else text_sign raw

-- a sign in place of a byte, if there is one
abbrev pub sign_at : Kind → ℕ → Option (List ℕ) → List EditSeen
sign_at kind at None = []
sign_at kind at (Some text) = record { advice = advises_sign kind; part = record { start = at; end = suc at }; text = text } ∷ []

-- the sign of a kind in place of the first byte after the name, by what is after the name and by the
-- value as it is
abbrev pub signs : Kind → (rest raw : List PlacedByte) → List EditSeen
signs kind [] raw = []
signs kind (x ∷ value) raw = sign_at kind x.1 (sign_for kind (bytes value) (bytes raw))

-- the sign of the kind of an item's capability in place of its own
abbrev pub kind_signs : List PlacedByte → List EditSeen
kind_signs item =
    option_map_or (λ (c : Capability). signs c.kind (after_name item) (value_of item)) (capability_named (bytes (written_name item))) []

-- ---- the spelling that reads back

-- the bytes of a string as they are spelled, in place of what is in that part
abbrev pub spelling_in : List ℕ → Option Part → List EditSeen
spelling_in value None = []
spelling_in value (Some part) = record { advice = advises_spelling; part = part; text = shown (spelling_of value) } ∷ []

-- whether a string that is more than a CR ends with a CR that stands for itself, or has a backslash
-- before it
abbrev pub keeps_return : (raw value : List ℕ) → Bool
keeps_return raw value = last_byte 0 raw == ascii.carriage_return && (nat_lt 1 (length value) && last_byte 0 value == ascii.carriage_return)

-- a string as it is spelled, in place of how it is written. A CR at its end stays as it is: it may
-- be that of a CR LF, which an editor takes for the end of the line.
abbrev pub spelled : List PlacedByte → List ℕ → List EditSeen
spelled raw value =
    if keeps_return (bytes raw) value then spelling_in (without_last value) (spanned (without_last raw))
    else spelling_in value (spanned raw)

-- the value of an item as it is spelled, in place of how it is written
abbrev pub spellings : List PlacedByte → List ℕ → List EditSeen
spellings item value = spelled (value_of item) value

-- `\^` in place of a `^` in that part
abbrev pub caret_in : Option Part → List EditSeen
caret_in None = []
caret_in (Some part) = record { advice = advises_caret; part = part; text = ascii.backslash ∷ ascii.caret ∷ [] } ∷ []

-- the same of the `^` at the end of an item's value that takes nothing, if there is one and the
-- value is read then
abbrev pub carets : List PlacedByte → List EditSeen
carets item = caret_in (healing_caret (value_of item))

-- ---- an item

-- what is offered for an item that has a string, if it has one, by its fault, if it has one
abbrev pub edits_for : List PlacedByte → Option Code → Option (List ℕ) → List EditSeen
edits_for item (Some code.UnknownCapability) value = known_names item
edits_for item (Some code.WrongKind) value = kind_signs item
edits_for item (Some code.UnknownEscape) (Some value) = spellings item value
edits_for item (Some code.BadString) value = carets item
edits_for item _ _ = []
