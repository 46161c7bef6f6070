-- The names field and the items of a folded text, and what an item's text states (terminfo(5);
-- X/Open Curses Issue 7, "Terminfo Source Format").
use Rattle.ti_text.specs.Ascii as ascii
use Rattle.std.specs.Prelude.{◌≡◌, ◌≢◌, ℕ, Bool, true, false, not, ◌||◌, ◌&&◌, ◌==◌, if◌then◌else◌, List, [], ◌∷◌, ◌++◌, map, Option, Some, None}
use Rattle.ti_text.specs.WhiteSpace.{is_white_space}
use Rattle.ti_spelling.specs.WhiteSpace.{without_trailing_space}
use Rattle.ti_source.specs.Cutting.{last_byte}
use Rattle.ti_source.specs.Folding.{PlacedByte}

-- the bytes, without their lines
abbrev pub bytes : List PlacedByte → List ℕ
bytes text = map (λ x. x.0) text

-- ---- the names field: the bytes before the first comma, or all; a backslash means nothing in it

-- no byte is a comma
abbrev pub HasNoComma : List PlacedByte → Type 0
HasNoComma [] = Unit {0}
HasNoComma (x ∷ xs) = ((x.0 == ascii.comma) ≡ false) × HasNoComma xs

-- a folded text is a field without a comma, and then nothing, or a comma and a rest
pub data Begins : (text field rest : List PlacedByte) → Type 0 where
  all_field : (field : List PlacedByte) → HasNoComma field → Begins field field []
  field_and_rest : (field rest : List PlacedByte) (line : ℕ) → HasNoComma field → Begins (field ++ (ascii.comma, line) ∷ rest) field rest

-- ---- items: the rest is cut at each comma that no backslash takes

-- whether the byte `x`, which is just after `before` and which nothing takes, takes the byte
-- `next`: a backslash takes any byte, and a `^` that is not just after a `%` takes any but a comma
abbrev pub takes : (before x next : ℕ) → Bool
takes before x next = x == ascii.backslash || (x == ascii.caret && not (before == ascii.percent) && not (next == ascii.comma))

-- whether a byte takes nothing of the text after it
abbrev pub stands_alone : (before x : ℕ) → List PlacedByte → Bool
stands_alone before x [] = true
stands_alone before x (y ∷ ys) = not (takes before x y.0)

-- a text, which is just after the byte `before`, is these items with a comma between each two
pub data AreItems : (before : ℕ) (text : List PlacedByte) (items : List (List PlacedByte)) → Type 0 where
  last_item : (before : ℕ) → AreItems before [] ([] ∷ [])
  item_ends : (before line : ℕ) (text : List PlacedByte) (items : List (List PlacedByte)) → AreItems ascii.comma text items
      → AreItems before ((ascii.comma, line) ∷ text) ([] ∷ items)
  pair_of_bytes : (before : ℕ) (x y : PlacedByte) (text item : List PlacedByte) (items : List (List PlacedByte)) → takes before x.0 y.0 ≡ true
      → AreItems y.0 text (item ∷ items)
      → AreItems before (x ∷ y ∷ text) ((x ∷ y ∷ item) ∷ items)
  single_byte : (before : ℕ) (x : PlacedByte) (text item : List PlacedByte) (items : List (List PlacedByte)) → x.0 ≢ ascii.comma
      → stands_alone before x.0 text ≡ true → AreItems x.0 text (item ∷ items)
      → AreItems before (x ∷ text) ((x ∷ item) ∷ items)

-- ---- an item: white space at its front is dropped, and it is on the line of its first byte

-- an item as it is read: its bytes, and the line of the first of them
pub record ItemPiece : Type 0 where
  pub text : List ℕ
  pub line : ℕ

-- the item of this text on this line
abbrev pub item_piece : List ℕ → ℕ → ItemPiece
item_piece text line = record { text = text; line = line }

-- the bytes of an item without the white space at its front
abbrev pub without_front : List PlacedByte → List PlacedByte
without_front [] = []
without_front (x ∷ xs) = if is_white_space x.0 then without_front xs else x ∷ xs

-- the line of the first byte, 0 if there is none
abbrev pub line_of : List PlacedByte → ℕ
line_of [] = 0
line_of (x ∷ xs) = x.1

-- an item's bytes from the first that is not white space, with the line of that byte
abbrev pub piece_of : List PlacedByte → ItemPiece
piece_of item = item_piece (bytes (without_front item)) (line_of (without_front item))

-- ---- what an item states: a name, and a boolean, a number or a string of that name, or a cancel

-- what an item claims of its name: a boolean, a number or a string, or that it is cancelled
pub data Claim : Type 0 where
  claims_flag : Claim
  claims_number : List ℕ → Claim
  claims_text : List ℕ → Claim
  claims_cancel : Claim

-- a name, and what an item claims of it
pub record Statement : Type 0 where
  pub name : List ℕ
  pub claim : Claim

-- the two bytes that end a name
abbrev pub is_mark : ℕ → Bool
is_mark b = b == ascii.number_sign || b == ascii.equals

-- no byte is a `#` or a `=`
abbrev pub HasNoMark : List ℕ → Type 0
HasNoMark [] = Unit {0}
HasNoMark (x ∷ xs) = (is_mark x ≡ false) × HasNoMark xs

-- each byte is white space
abbrev pub IsWhite : List ℕ → Type 0
IsWhite [] = Unit {0}
IsWhite (x ∷ xs) = (is_white_space x ≡ true) × IsWhite xs

-- an item that does not begin with a dot
abbrev pub IsEnabled : List ℕ → Type 0
IsEnabled [] = Unit {0}
IsEnabled (x ∷ xs) = (x == ascii.dot) ≡ false

-- what an item states, by its text with no white space at its front; an empty or a disabled item
-- states nothing
pub data States : (text : List ℕ) → Option Statement → Type 0 where
  empty_item : States [] None
  disabled_item : (text : List ℕ) → States (ascii.dot ∷ text) None
  number_item : (name value : List ℕ) → HasNoMark name → IsEnabled (name ++ ascii.number_sign ∷ value)
      → States (name ++ ascii.number_sign ∷ value) (Some (record { name = name; claim = claims_number value }))
  text_item : (name value : List ℕ) → HasNoMark name → IsEnabled (name ++ ascii.equals ∷ value)
      → States (name ++ ascii.equals ∷ value) (Some (record { name = name; claim = claims_text value }))
  cancel_item : (name end : List ℕ) → HasNoMark name → IsWhite end → IsEnabled (name ++ ascii.at_sign ∷ end)
      → States (name ++ ascii.at_sign ∷ end) (Some (record { name = name; claim = claims_cancel }))
  flag_item : (name end : List ℕ) → HasNoMark name → IsWhite end → IsEnabled (name ++ end)
      → is_white_space (last_byte ascii.at_sign name) ≡ false → last_byte ascii.at_sign name ≢ ascii.at_sign
      → States (name ++ end) (Some (record { name = name; claim = claims_flag }))

-- a text without the white space at its front
abbrev pub without_white_front : List ℕ → List ℕ
without_white_front [] = []
without_white_front (x ∷ xs) = if is_white_space x then without_white_front xs else x ∷ xs

-- a text without the white space at both ends
abbrev pub without_outer_space : List ℕ → List ℕ
without_outer_space text = without_trailing_space (without_white_front text)
