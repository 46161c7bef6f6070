-- Which parameters the string that is written at a position takes (own; Language Server Protocol
-- 3.17, "Signature Help Request"): terminfo(5), "Parameterized Strings".
use Rattle.std.specs.Prelude.{ℕ, ◌+◌, ◌-◌, ◌==◌, nat_le, Bool, false, List, length, slice_get, Option, None, Some, if◌then◌else◌, option_and_then}
use Rattle.ti_text.specs.Ascii as ascii
use Rattle.ti_caps.specs.Tables.{Capability, capability_named, name_of}
use Rattle.ti_source.specs.Folding.{PlacedByte}
use Rattle.source_descriptions.specs.Descriptions.{described}
use Rattle.source_spans.specs.Folding.{folded_of}
use Rattle.source_spans.specs.Touching.{ItemSeen, item_at}
use Rattle.source_strings.specs.Parameters.{parameter_at}
use Rattle.source_types.specs.declared.places.Position.{Position}
use Rattle.source_document.specs.Diagnostics.{text_at}
use Rattle.source_document.specs.Documents.{held}
use Rattle.source_blocks.specs.Spots.{spot_at}
use Rattle.source_blocks.specs.declared.spots.Spot.{Spot}
use Rattle.source_features.specs.Explaining.{bytes_between, value_text}
use Rattle.source_features.specs.declared.signatures.Signature.{Signature}

-- a string that takes parameters, as plain data: the name of its capability, the names of the
-- parameters with commas between them, and which of them is active, counted from 0, if one is
pub record SignatureSeen : Type 0 where
  pub name : List ℕ
  pub parameters : List ℕ
  pub active : Option ℕ

-- a signature that is held in memory, as plain data
abbrev pub signature_seen : Signature → SignatureSeen
signature_seen signature = record { name = signature.name.now; parameters = signature.parameters.now; active = signature.active }

-- whether what is after a name gives it a string
abbrev pub is_equals : Option ℕ → Bool
is_equals None = false
is_equals (Some byte) = byte == ascii.equals

-- whether an item gives its name a string
abbrev pub gives_text : ItemSeen → Bool
gives_text item = is_equals (slice_get item.text (length item.name))

-- the parameter that is active after so many bytes of an item: the last that its string pushes by a
-- code which begins in them
abbrev pub active_in : ItemSeen → ℕ → Option ℕ
active_in item within =
    if nat_le within (length item.name + 1) then None else parameter_at (value_text item) (within - length item.name - 2)

-- the parameters of the string of a capability, after so many bytes of its item, if it takes any
abbrev pub signature_by : ItemSeen → ℕ → Capability → Option SignatureSeen
signature_by item within c =
    if length (described c).parameters == 0 then None
    else Some (record { name = name_of c; parameters = (described c).parameters; active = active_in item within })

-- the parameters of the string of an item, if so many of its bytes are before a place in that string
abbrev pub signature_within : ItemSeen → ℕ → Option SignatureSeen
signature_within item within =
    if nat_le within (length item.name) then None
    else (if gives_text item then option_and_then (signature_by item within) (capability_named item.name) else None)

-- the same of an item that an offset of a block, with this folded text, is on
abbrev pub signature_in : List PlacedByte → ℕ → ItemSeen → Option SignatureSeen
signature_in text offset item = signature_within item (bytes_between item.span.start offset text)

-- the same of the item that an offset of a block is on
abbrev pub signature_at : List ℕ → ℕ → Option SignatureSeen
signature_at block offset = option_and_then (signature_in (folded_of block) offset) (item_at block offset)

-- the same of a place in a block of a text
abbrev pub signature_on : List ℕ → Spot → Option SignatureSeen
signature_on text spot = signature_at (text_at (held text) spot.at) spot.offset

-- the same of a position in a text
abbrev pub signature_of : List ℕ → Position → Option SignatureSeen
signature_of text place = option_and_then (signature_on text) (spot_at text place)
