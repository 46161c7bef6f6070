-- What the lines of a block hold (own): its names field, its items, and the lines that are kept as
-- they are.
use Rattle.ti_text.specs.Ascii as ascii
use Rattle.ti_text.specs.Texts.{is_empty}
use Rattle.ti_text.specs.WhiteSpace.{is_white_space}
use Rattle.std.specs.Prelude.{ℕ, ◌+◌, ◌==◌, ◌||◌, nat_lt, Bool, true, false, if◌then◌else◌, List, [], ◌∷◌, ◌++◌, map}
use Rattle.std.specs.List.{list_all}
use Rattle.ti_source.specs.Items.{ItemPiece, piece_of}
use Rattle.ti_source.specs.Walking.{block_items}

-- ---- lines

-- lines with one more byte at the front of the first
abbrev pub with_first_byte : ℕ → List (List ℕ) → List (List ℕ)
with_first_byte x [] = (x ∷ []) ∷ []
with_first_byte x (line ∷ lines) = (x ∷ line) ∷ lines

-- the lines of a text, each without the newline that ends it
abbrev pub lines_of : List ℕ → List (List ℕ)
lines_of [] = []
lines_of (x ∷ xs) = if x == ascii.newline then [] ∷ lines_of xs else with_first_byte x (lines_of xs)

-- whether a line is kept: it is a comment, or it is empty or has only white space
abbrev pub is_kept : List ℕ → Bool
is_kept [] = true
is_kept (x ∷ xs) = x == ascii.number_sign || list_all is_white_space (x ∷ xs)

-- a line that is kept, and its number in its block
pub record KeptLine : Type 0 where
  pub number : ℕ
  pub text : List ℕ

-- the kept lines among lines, of which the first has that number
abbrev pub kept_from : ℕ → List (List ℕ) → List KeptLine
kept_from number [] = []
kept_from number (line ∷ lines) =
    if is_kept line then record { number = number; text = line } ∷ kept_from (number + 1) lines else kept_from (number + 1) lines

-- the kept lines of a block, which are counted from 1
abbrev pub kept_lines : List ℕ → List KeptLine
kept_lines block = kept_from 1 (lines_of block)

-- ---- items

-- an item as it is read, and whether a comma ends it
pub record Entry : Type 0 where
  pub text : List ℕ
  pub line : ℕ
  pub ended : Bool

-- items in a row, without the empty one after the last comma
abbrev pub entries_of : List ItemPiece → List Entry
entries_of [] = []
entries_of (p ∷ []) = if is_empty p.text then [] else record { text = p.text; line = p.line; ended = false } ∷ []
entries_of (p ∷ q ∷ ps) = record { text = p.text; line = p.line; ended = true } ∷ entries_of (q ∷ ps)

-- the items of a block, each with its line
abbrev pub entries : List ℕ → List Entry
entries block = entries_of (map piece_of (block_items block))

-- ---- both, in their order

-- an item and whether a comma ends it, or a line that is kept
pub data Piece : Type 0 where
  item : List ℕ → Bool → Piece
  kept : List ℕ → Piece

-- a kept line as a piece
abbrev pub kept_piece : KeptLine → Piece
kept_piece line = kept line.text

-- kept lines up to a line, and from it on
abbrev pub lines_before : ℕ → List KeptLine → List KeptLine
lines_before number [] = []
lines_before number (k ∷ ks) = if nat_lt k.number number then k ∷ lines_before number ks else []

abbrev pub lines_from : ℕ → List KeptLine → List KeptLine
lines_from number [] = []
lines_from number (k ∷ ks) = if nat_lt k.number number then lines_from number ks else k ∷ ks

-- items and kept lines in the order of their lines: a kept line comes before the first item that
-- begins after it
abbrev pub merged : List Entry → List KeptLine → List Piece
merged [] ks = map kept_piece ks
merged (e ∷ es) ks = map kept_piece (lines_before e.line ks) ++ item e.text e.ended ∷ merged es (lines_from e.line ks)

-- the pieces of a block after its names field
abbrev pub pieces_of : List ℕ → List Piece
pieces_of block = merged (entries block) (kept_lines block)
