-- The hints on a block (own): what no fault of the report says and yet is a mistake, in the order of
-- the block.
use Rattle.std.specs.Prelude.{ℕ, ◌+◌, Bool, true, false, List, [], ◌∷◌, ◌++◌, drop, length, map, Option, None, Some, option_to_list}
use Rattle.ti_caps.specs.Tables.{Capability}
use Rattle.ti_source.specs.Folding.{PlacedByte}
use Rattle.ti_source.specs.Items.{Claim, Statement, bytes, claims_text}
use Rattle.ti_source.specs.Stating.{statement_of}
use Rattle.source_spans.specs.Folding.{folded_of}
use Rattle.source_spans.specs.Parts.{field_of, part_of, spanned}
use Rattle.source_spans.specs.Subjects.{items_of, span_or_start}
use Rattle.source_block_hints.specs.Commas.{broken_from, name_from}
use Rattle.source_block_hints.specs.Delays.{delay_from}
use Rattle.source_block_hints.specs.Strings.{text_found}
use Rattle.source_block_hints.specs.Heads.{head_found}
use Rattle.source_block_hints.specs.Mentions.{is_among, mention_of, number_said}
use Rattle.source_block_hints.specs.declared.found.Found.{Found}
use Rattle.source_block_hints.specs.declared.hint.Hint.{Hint}
use Rattle.source_block_hints.specs.declared.hint.HintKind.TheVariants.{SaidTwice}

-- ---- what is found in an item

-- what is wrong with the format of the string of that index, if it begins at this offset of its item
abbrev pub claim_found : ℕ → List ℕ → ℕ → Claim → List Found
claim_found index text at (claims_text value) = text_found index at (drop at text)
claim_found index text at claim = []

-- a capability that an item before says: its name is quoted
abbrev pub twice_found : Bool → List ℕ → List Found
twice_found true name = record { kind = SaidTwice; part = record { start = 0; end = length name } } ∷ []
twice_found false name = []

-- what is found in the value of a string, which begins at this offset of its item
abbrev pub value_found : List ℕ → ℕ → Claim → List Found
value_found text at (claims_text value) =
    option_to_list (name_from (at + 1) (drop (at + 1) text)) ++ option_to_list (delay_from at (drop at text))
value_found text at claim = []

-- what is found in an item that says a capability, or else may be two; `again` tells whether an item
-- before says it
abbrev pub mention_found : Bool → List ℕ → List PlacedByte → Statement → Option Capability → List Found
mention_found again text item statement None = option_to_list (broken_from text 0 item)
mention_found again text item statement (Some cap) =
    claim_found cap.index text (length statement.name + 1) statement.claim ++ twice_found again statement.name
    ++ value_found text (length statement.name + 1) statement.claim

-- what is found in an item, by what it states
abbrev pub statement_found : Bool → List ℕ → List PlacedByte → Option Statement → List Found
statement_found again text item None = []
statement_found again text item (Some statement) = mention_found again text item statement (mention_of statement)

-- what is found in an item of this text
abbrev pub found_in : Bool → List ℕ → List PlacedByte → List Found
found_in again text item = statement_found again text item (statement_of text)

-- ---- the hints

-- what is found, as a hint on the item: a part of it that has no bytes quotes nothing
abbrev pub hint_on : List PlacedByte → Found → Hint
hint_on item found =
    let span = span_or_start (spanned item) in
    let quoted = span_or_start (spanned (part_of item found.part)) in
    record { kind = found.kind; start = span.start; end = span.end; detail_start = quoted.start; detail_end = quoted.end }

-- the hints on an item, if items before it say the capabilities of these numbers
abbrev pub item_hints : List ℕ → List PlacedByte → List Hint
item_hints said item = map (hint_on item) (found_in (is_among said (number_said (bytes item))) (bytes item) item)

-- the hints on items, if items before them say the capabilities of these numbers
abbrev pub hints_after : List ℕ → List (List PlacedByte) → List Hint
hints_after said [] = []
hints_after said (item ∷ items) = item_hints said item ++ hints_after (said ++ option_to_list (number_said (bytes item))) items

-- the hint on the names field
abbrev pub head_hints : List PlacedByte → List Hint
head_hints field = map (hint_on field) (option_to_list (head_found field))

-- the hints on a block: on its head, then on its items in their order
unfoldable pub block_hints : List ℕ → List Hint
block_hints block = head_hints (field_of (folded_of block)) ++ hints_after [] (items_of (folded_of block))
