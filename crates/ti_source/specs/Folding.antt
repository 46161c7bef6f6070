-- The text of a block as it is read (terminfo(5); X/Open Curses Issue 7, "Terminfo Source Format"):
-- comment lines are left out, and a line may be broken anywhere, even inside a string. A break
-- takes the white space and the newlines after it along (own).
use Rattle.ti_text.specs.Ascii as ascii
use Rattle.std.specs.Prelude.{◌≡◌, ◌≢◌, ℕ, ◌+◌, Bool, true, false, not, ◌||◌, ◌==◌, List, [], ◌∷◌, ◌++◌, map, filter, flat_map}
use Rattle.ti_text.specs.WhiteSpace.{is_white_space}
use Rattle.ti_text.specs.Lines.{line_count}

-- a byte, and the line that it is on
abbrev pub PlacedByte : Type 0
PlacedByte = ℕ × ℕ

-- each byte of a block, with the line that it is on: one more than the newlines before it
pub record ArePlaced (block : List ℕ) (text : List PlacedByte) : Type 0 where
  pub bytes : map (λ x. x.0) text ≡ block
  pub lines : (front back : List PlacedByte) (x : PlacedByte) → text ≡ front ++ x ∷ back → x.1 ≡ line_count (map (λ y. y.0) front) + 1

-- no byte is a newline
abbrev pub HasNoNewline : List PlacedByte → Type 0
HasNoNewline [] = Unit {0}
HasNoNewline (x ∷ xs) = ((x.0 == ascii.newline) ≡ false) × HasNoNewline xs

-- the lines of a text, each with the newline that ends it; the last line may lack it
pub data AreLines : (text : List PlacedByte) (lines : List (List PlacedByte)) → Type 0 where
  no_lines : AreLines [] []
  last_line : (line : List PlacedByte) → line ≢ [] → HasNoNewline line → AreLines line (line ∷ [])
  line_and_rest : (line rest : List PlacedByte) (at : ℕ) (lines : List (List PlacedByte)) → HasNoNewline line → AreLines rest lines
      → AreLines (line ++ (ascii.newline, at) ∷ rest) ((line ++ (ascii.newline, at) ∷ []) ∷ lines)

-- whether a line is a comment: it begins with a `#`
abbrev pub is_comment : List PlacedByte → Bool
is_comment [] = false
is_comment (x ∷ xs) = x.0 == ascii.number_sign

-- whether a break takes a byte along: white space or a newline
abbrev pub is_blank : ℕ → Bool
is_blank b = b == ascii.newline || is_white_space b

-- each byte is white space or a newline
abbrev pub IsBlankRun : List PlacedByte → Type 0
IsBlankRun [] = Unit {0}
IsBlankRun (x ∷ xs) = (is_blank x.0 ≡ true) × IsBlankRun xs

-- a text is empty, or its first byte is neither white space nor a newline
abbrev pub BeginsNoBlank : List PlacedByte → Type 0
BeginsNoBlank [] = Unit {0}
BeginsNoBlank (x ∷ xs) = is_blank x.0 ≡ false

-- A text is pieces without newline, and between each two of them a newline with the longest run of
-- white space and newlines after it. `kept` is the pieces, joined.
pub data Joins : (text kept : List PlacedByte) → Type 0 where
  last_piece : (piece : List PlacedByte) → HasNoNewline piece → Joins piece piece
  piece_and_break : (piece run rest kept : List PlacedByte) (at : ℕ) → HasNoNewline piece → IsBlankRun run → BeginsNoBlank rest → Joins rest kept
      → Joins (piece ++ (ascii.newline, at) ∷ (run ++ rest)) (piece ++ kept)

-- the folded text of a block: its lines that are not comments, joined
pub record Folds (block : List ℕ) (text : List PlacedByte) : Type 0 where
  pub whole : List PlacedByte
  pub lines : List (List PlacedByte)
  pub are_placed : ArePlaced block whole
  pub are_lines : AreLines whole lines
  pub joins : Joins (flat_map (λ line. line) (filter (λ line. not (is_comment line)) lines)) text

-- a block has no two folded texts
abbrev pub OneFolding : Type 0
OneFolding = (block : List ℕ) (one other : List PlacedByte) → Folds block one → Folds block other → one ≡ other

-- each block has a folded text
abbrev pub EachIsFolded : Type 0
EachIsFolded = (block : List ℕ) → (text : List PlacedByte) × Folds block text
