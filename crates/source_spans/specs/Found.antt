-- What is found for the faults of a block (own): the items that they are of.
use Rattle.std.specs.Prelude.{ℕ, ◌≡◌, ◌&&◌, Bool, true, false, List, Option, filter, map, option_and_then, slice_get}
use Rattle.std.specs.Option.{is_some}
use Rattle.ti_source.specs.declared.code.Code.{Code}
use Rattle.ti_source.specs.declared.code.Code.TheVariants.{BadNumber, NumberTooLarge, BadString, UnknownCapability, WrongKind, UnknownEscape}
use Rattle.ti_source.specs.Parsing.{reading_of_text}
use Rattle.ti_source.specs.Reading.{ReadFault}
use Rattle.source_spans.specs.Faulty.{Sought, parts_of}
use Rattle.source_spans.specs.Folding.{folded_of}
use Rattle.source_spans.specs.Parts.{spanned}
use Rattle.source_spans.specs.Subjects.{items_of}
use Rattle.source_spans.specs.declared.parts.Part.{Part}

-- a fault of this code is of an item, by what reading alone finds
abbrev pub is_item_code : Code → Bool
is_item_code BadNumber = true
is_item_code NumberTooLarge = true
is_item_code BadString = true
is_item_code UnknownCapability = true
is_item_code WrongKind = true
is_item_code UnknownEscape = true
is_item_code _ = false

-- a fault that reading gave is of an item, and has its name
abbrev pub is_of_item : ReadFault → Bool
is_of_item fault = is_item_code fault.code && is_some fault.detail

-- a fault that reading gave, as its part is sought
abbrev pub sought_read : ReadFault → Sought
sought_read fault = record { line = fault.line; code = fault.code; detail = fault.detail }

-- where the item of an ordinal is in a block
abbrev pub item_of_ordinal : List ℕ → ℕ → Option Part
item_of_ordinal block ordinal = option_and_then spanned (slice_get (items_of (folded_of block)) ordinal)

-- the faults of the items of a block, sought one after another, are found at the items of their
-- ordinals, also where items of one name are on one line
abbrev pub FaultsAreOfTheirItems : Type 0
FaultsAreOfTheirItems =
    (block : List ℕ)
    → parts_of block (map sought_read (filter is_of_item (reading_of_text block).faults))
    ≡ map (λ fault. item_of_ordinal block fault.ordinal) (filter is_of_item (reading_of_text block).faults)
