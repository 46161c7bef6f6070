-- The items of a block as they are seen are those that are read, and have their ordinals (own).
use Rattle.std.specs.Prelude.{ℕ, ◌≡◌, ◌==◌, All, List, map, slice_get, Some, option_and_then}
use Rattle.std.specs.List.{find}
use Rattle.std.specs.Option.{option_map}
use Rattle.ti_source.specs.Items.{Statement, States, bytes, piece_of}
use Rattle.ti_source.specs.Parsing.{Parses, reading_of_text}
use Rattle.ti_source.specs.Reading.{ReadItem, Reading, Said}
use Rattle.ti_source.specs.Verdicts.{Judges, Verdict, said_by}
use Rattle.source_spans.specs.Folding.{folded_of}
use Rattle.source_spans.specs.Subjects.{items_of, part_on}
use Rattle.source_spans.specs.Touching.{ordinal_at}

-- the items of a block that are seen have the texts of those that are read, one by one
abbrev pub SeenItemsAreRead : Type 0
SeenItemsAreRead =
    (block : List ℕ) (reading : Reading) (parses : Parses block reading)
    → map bytes (items_of (folded_of block)) ≡ map (λ item. (piece_of item).text) parses.items

-- the text of an item states something that is accepted, and says this
pub record IsTextOf (text : List ℕ) (said : Said) : Type 0 where
  pub statement : Statement
  pub verdict : Verdict
  pub states : States text (Some statement)
  pub judges : Judges statement.name statement.claim verdict
  pub accepts : said_by verdict ≡ Some said

-- an accepted item of a block says what the text states of the item that is seen at its ordinal
abbrev pub OrdinalsAreOfItems : Type 0
OrdinalsAreOfItems =
    (block : List ℕ)
    → All (λ (item : ReadItem). (text : List ℕ) × (slice_get (map bytes (items_of (folded_of block))) item.ordinal ≡ Some text) × IsTextOf text item.said)
    (reading_of_text block).items

-- what the text states of the item that is seen at an ordinal is what an accepted item of that
-- ordinal says
abbrev pub SayingsAreRead : Type 0
SayingsAreRead =
    (block : List ℕ) (ordinal : ℕ) (text : List ℕ) (said : Said) → slice_get (map bytes (items_of (folded_of block))) ordinal ≡ Some text → IsTextOf text said
    → option_map (λ item. item.said) (find (λ item. item.ordinal == ordinal) (reading_of_text block).items) ≡ Some said

-- the item that an offset is on is the one of its ordinal
abbrev pub OrdinalsAreOfTouched : Type 0
OrdinalsAreOfTouched =
    (block : List ℕ) (offset : ℕ)
    → option_and_then (slice_get (items_of (folded_of block))) (ordinal_at block offset) ≡ part_on offset (items_of (folded_of block))
