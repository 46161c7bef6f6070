-- A formatted source is read as before, with its comments and blank lines in their places and its lines
-- within the width, and stays as it is when it is formatted again (own).
use Rattle.ti_text.specs.Ascii as ascii
use Rattle.std.specs.Prelude.{◌≡◌, ◌≤◌, ◌⊎◌, ℕ, nat_lt, Bool, true, List, [], ◌∷◌, ◌++◌, filter, map}
use Rattle.std.specs.List.{AllByRecursion, Contains}
use Rattle.ti_source.specs.Cutting.{blocks_from_head, front_of}
use Rattle.ti_source.specs.Items.{ItemPiece, piece_of}
use Rattle.ti_source.specs.Parsing.{reading_of_text}
use Rattle.ti_source.specs.Reading.{ReadFault, ReadItem, Reading}
use Rattle.ti_source.specs.Walking.{block_items}
use Rattle.source_format.specs.Layout.{columns, formatted_text, item_bytes}
use Rattle.source_format.specs.Pieces.{is_kept, kept_lines, lines_of}

-- ---- comments and blank lines stay

-- the comments and blank lines of a text, in order
abbrev pub kept_texts : List ℕ → List (List ℕ)
kept_texts text = filter is_kept (lines_of text)

-- a comment or a blank line, and the texts of the items of its block that begin after it
pub record StandingLine : Type 0 where
  pub text : List ℕ
  pub later : List (List ℕ)

-- the texts of the items that begin after a line; an empty item begins on none
abbrev pub texts_after : ℕ → List ItemPiece → List (List ℕ)
texts_after number items = map (λ item. item.text) (filter (λ item. nat_lt number item.line) items)

-- the comments and blank lines of a block, in order, each before the items that begin after it
abbrev pub standing_lines : List ℕ → List StandingLine
standing_lines block = map (λ line. record { text = line.text; later = texts_after line.number (map piece_of (block_items block)) }) (kept_lines block)

-- ---- a source is read as before

-- the texts of the items of a block
abbrev pub item_texts : List ℕ → List (List ℕ)
item_texts block = map (λ item. (piece_of item).text) (block_items block)

-- an accepted item and a fault, without their lines
abbrev pub unplaced_item : ReadItem → ReadItem
unplaced_item item = record { ordinal = item.ordinal; line = 0; said = item.said }

abbrev pub unplaced_fault : ReadFault → ReadFault
unplaced_fault fault = record { ordinal = fault.ordinal; line = 0; code = fault.code; detail = fault.detail }

-- a reading without the lines of its items and faults
abbrev pub unplaced : Reading → Reading
unplaced reading = record {
  rule = reading.rule;
  field = reading.field;
  names = reading.names;
  items = map unplaced_item reading.items;
  faults = map unplaced_fault reading.faults;
}

-- two blocks have items of the same texts, the same comments and blank lines before the same items,
-- and are read alike but for the lines
pub record ReadsAlike (block other : List ℕ) : Type 0 where
  pub texts : item_texts block ≡ item_texts other
  pub standing : standing_lines block ≡ standing_lines other
  pub reading : unplaced (reading_of_text block) ≡ unplaced (reading_of_text other)

-- blocks one by one
abbrev pub ReadAlike : List (List ℕ) → List (List ℕ) → Type 0
ReadAlike [] [] = Unit {0}
ReadAlike [] (c ∷ cs) = ⊥
ReadAlike (b ∷ bs) [] = ⊥
ReadAlike (b ∷ bs) (c ∷ cs) = ReadsAlike b c × ReadAlike bs cs

-- two sources have the same comments and blank lines, the same lines before their blocks, and blocks
-- that are read alike
pub record IsReadAlike (source other : List ℕ) : Type 0 where
  pub kept : kept_texts source ≡ kept_texts other
  pub preface : front_of ascii.newline source ≡ front_of ascii.newline other
  pub blocks : ReadAlike (blocks_from_head ascii.newline source) (blocks_from_head ascii.newline other)

-- a formatted source is read as it was
abbrev pub FormattingKeepsReading : Type 0
FormattingKeepsReading = (width : ℕ) (source : List ℕ) → IsReadAlike source (formatted_text width source)

-- ---- its lines are within the width

-- a line is a tab and one item of a block, with the comma that ends it if one does
pub record IsOneItem (block line : List ℕ) : Type 0 where
  pub text : List ℕ
  pub ended : Bool
  pub of_block : Contains (item_texts block) text
  pub is_line : line ≡ ascii.tab ∷ item_bytes text ended

-- a line of a block that is not broken: its names field, a comment or blank line, or one item
abbrev pub IsWhole : (block line : List ℕ) → Type 0
IsWhole block line = (line ≡ (reading_of_text block).field ++ ascii.comma ∷ []) ⊎ ((is_kept line ≡ true) ⊎ IsOneItem block line)

-- each line of a block is within the width, or is not broken
abbrev pub FitsWidth : ℕ → List ℕ → Type 0
FitsWidth width block = AllByRecursion (λ line. (columns line ≤ width) ⊎ IsWhole block line) (lines_of block)

-- each line of the blocks of a text is within the width, or is not broken
abbrev pub LinesFit : ℕ → List ℕ → Type 0
LinesFit width text = AllByRecursion (FitsWidth width) (blocks_from_head ascii.newline text)

-- the lines of a formatted source fit
abbrev pub FormattedLinesFit : Type 0
FormattedLinesFit = (width : ℕ) (source : List ℕ) → LinesFit width (formatted_text width source)

-- ---- it stays as it is

-- formatting a source a second time changes nothing
abbrev pub FormattingIsSettled : Type 0
FormattingIsSettled = (width : ℕ) (source : List ℕ) → formatted_text width (formatted_text width source) ≡ formatted_text width source
