-- What an editor offers to complete a word with (own; Language Server Protocol 3.17, "Completion
-- Request").
use Rattle.ti_text.specs.Ascii as ascii
use Rattle.std.specs.Prelude.{ℕ, suc, ◌≡◌, ◌+◌, ◌≤◌, ◌==◌, ◌||◌, Bool, false, true, List, [], ◌∷◌, ◌++◌, filter, flat_map, length, map, max, take}
use Rattle.std.specs.Prelude.{Option, Some, option_and_then, option_map, if◌then◌else◌}
use Rattle.std.specs.List.{list_any}
use Rattle.std.specs.String.{string_bytes}
use Rattle.ti_text.specs.WhiteSpace.{is_white_space}
use Rattle.ti_source.specs.Parsing.{reading_of_text}
use Rattle.ti_source.specs.Reading.{Reading}
use Rattle.base_meaning.specs.ItemLaws.{IsDistinctOf}
use Rattle.base_meaning.specs.OwnNames.{own_names}
use Rattle.base_meaning.specs.Owner.{readings}
use Rattle.base_meaning.specs.Report.{shown_detail}
use Rattle.source_spans.specs.Words.{word_before}
use Rattle.source_spans.specs.declared.parts.Part.{Part}
use Rattle.source_spans.specs.declared.words.Word.{Word}
use Rattle.source_types.specs.declared.places.Position.{Position}
use Rattle.source_types.specs.declared.places.Range.{Range}
use Rattle.source_document.specs.Diagnostics.{text_at}
use Rattle.source_document.specs.Documents.{held}
use Rattle.source_places.specs.Position.{offset_of}
use Rattle.source_places.specs.Splicing.{spliced}
use Rattle.source_blocks.specs.Giving.{can_be_given}
use Rattle.source_blocks.specs.Places.{is_place, missing_newline}
use Rattle.source_blocks.specs.Spots.{range_in, settled, spot_at}
use Rattle.source_blocks.specs.declared.spots.Spot.{Spot}
use Rattle.source_features.specs.declared.completions.Completion.{Completion}
use Rattle.source_features.specs.declared.completions.Offers.{Offers}
use Rattle.source_features.specs.declared.completions.Offers.TheVariants as offers

-- what is offered, as plain data: the names of capabilities, or these
pub data OffersSeen : Type 0 where
  offers_capabilities : OffersSeen
  offers_names : List (List ℕ) → OffersSeen

-- a completion as plain data: the word that is completed, up to the cursor, and what is offered
pub record CompletionSeen : Type 0 where
  pub range : Range
  pub offers : OffersSeen

-- offers that hold their names in memory, as plain data
abbrev pub offers_seen : Offers → OffersSeen
offers_seen offers.Capabilities = offers_capabilities
offers_seen (offers.Names names) = offers_names (map string_bytes names.items)

-- a completion that holds its names in memory, as plain data
abbrev pub completion_seen : Completion → CompletionSeen
completion_seen completion = record { range = completion.range; offers = offers_seen completion.offers }

-- the lookup names that these blocks own, of which the first is at that position
abbrev pub names_from : List (List ℕ) → ℕ → List (List ℕ) → List (List ℕ)
names_from blocks at [] = []
names_from blocks at (block ∷ rest) = own_names (readings blocks) at (reading_of_text block).names ++ names_from blocks (suc at) rest

-- the lookup names of all blocks, each once: where its owner is
abbrev pub all_names : List (List ℕ) → List (List ℕ)
all_names blocks = names_from blocks 0 blocks

-- the lookup names of all blocks, one block after the other
abbrev pub lookup_names : List (List ℕ) → List (List ℕ)
lookup_names blocks = flat_map (λ (block : Reading). block.names) (readings blocks)

-- those of them that an item `use=` can give
abbrev pub offered_names : List (List ℕ) → List (List ℕ)
offered_names blocks = filter can_be_given (all_names blocks)

-- what is offered for a word: names as a report shows them
abbrev pub offers_for : List (List ℕ) → Word → OffersSeen
offers_for blocks word = if word.used then offers_names (map shown_detail (offered_names blocks)) else offers_capabilities

-- ---- the part that is replaced

-- whether a byte parts words: white space, or the newline that ends a line
abbrev pub is_break : ℕ → Bool
is_break byte = byte == ascii.newline || is_white_space byte

-- where the last word of a text begins: after its last break, or at its start
abbrev pub last_word : List ℕ → ℕ
last_word [] = 0
last_word (byte ∷ bytes) = if list_any is_break (byte ∷ bytes) then suc (last_word bytes) else 0

-- the part of a block that is replaced for a word which ends at that offset: an item goes on over a
-- wrap and a blank, and no more of it is replaced than what is after the last of these
abbrev pub replaced : List ℕ → ℕ → Word → Part
replaced block offset word = record { start = max word.start (last_word (take offset block)); end = offset }

-- what is offered for a word of a block that begins on that line, which ends at that offset
abbrev pub completion_for : List (List ℕ) → ℕ → List ℕ → ℕ → Word → CompletionSeen
completion_for blocks line block offset word = record { range = range_in line block (replaced block offset word); offers = offers_for blocks word }

-- what is offered at an offset of a block that begins on that line
abbrev pub completion_at : List (List ℕ) → ℕ → List ℕ → ℕ → Option CompletionSeen
completion_at blocks line block offset = option_map (completion_for blocks line block offset) (word_before block offset)

-- what is offered at a place in a block
abbrev pub completion_in : List (List ℕ) → Spot → Option CompletionSeen
completion_in blocks spot = completion_at blocks spot.line (text_at blocks spot.at) spot.offset

-- what is offered at a place of a text
abbrev pub completion_of : List ℕ → Position → Option CompletionSeen
completion_of text place = option_and_then (completion_in (held text)) (spot_at text place)

-- ---- laws

-- the names that are offered are those that an item `use=` can give, each once, in the order of
-- their first places
abbrev pub NamesAreOfferedOnce : Type 0
NamesAreOfferedOnce = (blocks : List (List ℕ)) → IsDistinctOf (filter can_be_given (lookup_names blocks)) (offered_names blocks)

-- what is replaced is a part of the line that the cursor is on, as the protocol asks
abbrev pub CompletionsStayInTheLine : Type 0
CompletionsStayInTheLine =
    (text : List ℕ) (place : Position) (completion : CompletionSeen) → completion_of text place ≡ Some completion
    → (completion.range.start.line ≡ (settled text place).line) × (completion.range.end.line ≡ (settled text place).line)
    × (completion.range.start.column ≤ completion.range.end.column)

-- a text once the client has put a name in the place of what a completion replaces
abbrev pub completed : List ℕ → CompletionSeen → List ℕ → List ℕ
completed text completion name = spliced text (offset_of text completion.range.start) (offset_of text completion.range.end) name

-- What a completion replaces is a word of the block in which the place is: it ends at the place, and
-- no byte of it is white space or a newline. The client that puts a name in at the range has the
-- name in place of the word, and all else as it was, if an editor has a place at each end of the
-- word. The newline that a text lacks at its end is named, since its blocks are read with it.
pub record ReplacesWord (text : List ℕ) (place : Position) (completion : CompletionSeen) : Type 0 where
  pub spot : Spot
  pub before : List ℕ
  pub first : List ℕ
  pub word : List ℕ
  pub rest : List ℕ
  pub after : List ℕ
  pub found : spot_at text place ≡ Some spot
  pub block : text_at (held text) spot.at ≡ first ++ (word ++ rest)
  pub whole : text ++ missing_newline text ≡ before ++ (text_at (held text) spot.at ++ after)
  pub ends_here : length first + length word ≡ spot.offset
  pub unbroken : list_any is_break word ≡ false
  pub applied : is_place (text_at (held text) spot.at) (length first) ≡ true → is_place (text_at (held text) spot.at) spot.offset ≡ true
      → (name : List ℕ) → completed text completion name ++ missing_newline text ≡ before ++ ((first ++ (name ++ rest)) ++ after)

-- each completion does so
abbrev pub CompletionsReplaceAWord : Type 0
CompletionsReplaceAWord =
    (text : List ℕ) (place : Position) (completion : CompletionSeen) → completion_of text place ≡ Some completion → ReplacesWord text place completion
