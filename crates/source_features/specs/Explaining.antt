-- What is said about the string that a position is on (own): terminfo(5), "Parameterized Strings".
use Rattle.std.specs.Prelude.{ℕ, ◌+◌, ◌-◌, ◌==◌, ◌&&◌, nat_le, nat_lt, List, [], count_by, drop, length, Option, None, Some, if◌then◌else◌, option_and_then}
use Rattle.ti_caps.specs.Tables.{Capability, name_of}
use Rattle.ti_source.specs.Folding.{PlacedByte}
use Rattle.ti_source.specs.Reading.{Said, said_flag, said_number, said_text, said_cancel, said_import}
use Rattle.source_descriptions.specs.Descriptions.{described}
use Rattle.source_spans.specs.Folding.{folded_of}
use Rattle.source_spans.specs.Touching.{ItemSeen, item_at, ordinal_at}
use Rattle.source_strings.specs.Explained.{explained}
use Rattle.source_strings.specs.Places.{place_in}
use Rattle.source_types.specs.declared.places.Position.{Position}
use Rattle.source_document.specs.Diagnostics.{text_at}
use Rattle.source_document.specs.Documents.{held}
use Rattle.source_blocks.specs.Spots.{spot_at}
use Rattle.source_blocks.specs.declared.spots.Spot.{Spot}
use Rattle.source_features.specs.Meanings.{saying_of}

-- ---- places

-- how many bytes of a folded text are from one offset of a block up to another
abbrev pub bytes_between : ℕ → ℕ → List PlacedByte → ℕ
bytes_between from to text = count_by (λ x. nat_le from x.1 && nat_lt x.1 to) text

-- the text of the value of an item: what is after its name and the `=`
abbrev pub value_text : ItemSeen → List ℕ
value_text item = drop (length item.name + 1) item.text

-- which byte of the string of an item its byte at an offset is of
abbrev pub place_in_value : ItemSeen → ℕ → Option ℕ
place_in_value item within =
    if nat_lt (length item.name) within then place_in (value_text item) (within - length item.name - 1) else None

-- which byte of the string of an item an offset of its block, with this folded text, is on
abbrev pub place_on : List PlacedByte → ℕ → ItemSeen → Option ℕ
place_on text offset item = place_in_value item (bytes_between item.span.start offset text)

-- ---- what is said

-- about the string of a capability, if it takes parameters
abbrev pub explained_text : List PlacedByte → ℕ → ItemSeen → Capability → List ℕ → List ℕ
explained_text text offset item c value =
    if length (described c).parameters == 0 then []
    else explained (name_of c) (described c).parameters value (place_on text offset item)

-- about what an accepted item says
abbrev pub explained_said : List PlacedByte → ℕ → ItemSeen → Option Said → List ℕ
explained_said text offset item None = []
explained_said text offset item (Some (said_flag c)) = []
explained_said text offset item (Some (said_number c n)) = []
explained_said text offset item (Some (said_text c value)) = explained_text text offset item c value
explained_said text offset item (Some (said_cancel c)) = []
explained_said text offset item (Some (said_import name)) = []

-- about an item that an offset of a block is on
abbrev pub explained_item : List ℕ → ℕ → Option ItemSeen → List ℕ
explained_item block offset None = []
explained_item block offset (Some item) =
    explained_said (folded_of block) offset item (option_and_then (saying_of block) (ordinal_at block offset))

-- about the item that an offset of a block is on
abbrev pub explained_at : List ℕ → ℕ → List ℕ
explained_at block offset = explained_item block offset (item_at block offset)

-- about a place in a block of a text
abbrev pub explained_on : List ℕ → Option Spot → List ℕ
explained_on text None = []
explained_on text (Some spot) = explained_at (text_at (held text) spot.at) spot.offset

-- about a position in a text
abbrev pub explanation_of : List ℕ → Position → List ℕ
explanation_of text place = explained_on text (spot_at text place)
