-- The names field and the items, computed, and what a reader of a folded text takes (own).
use Rattle.ti_text.specs.Ascii as ascii
use Rattle.std.specs.Prelude.{◌≡◌, ℕ, Bool, true, false, not, ◌&&◌, ◌==◌, if◌then◌else◌, List, [], ◌∷◌, ◌++◌, map, length, take, slice_index, ◌<◌, ◌≤◌}
use Rattle.ti_text.specs.WhiteSpace.{is_white_space}
use Rattle.ti_source.specs.Folding.{PlacedByte}
use Rattle.ti_source.specs.declared.items.Escape.{Escape}
use Rattle.ti_source.specs.declared.items.Escape.TheVariants as escape
use Rattle.ti_source.specs.declared.items.Run.{Run}
use Rattle.ti_source.specs.Items.{ItemPiece, item_piece, piece_of}

-- what is before the first comma, all if there is none
abbrev pub field_of : List PlacedByte → List PlacedByte
field_of [] = []
field_of (x ∷ xs) = if x.0 == ascii.comma then [] else x ∷ field_of xs

-- what is after the first comma, nothing if there is none
abbrev pub after_field : List PlacedByte → List PlacedByte
after_field [] = []
after_field (x ∷ xs) = if x.0 == ascii.comma then xs else after_field xs

-- what takes the byte after `x`: `before` is just before `x`, and `by` takes `x` itself
abbrev pub escape_after : Escape → ℕ → ℕ → Escape
escape_after escape.Nothing before x =
    if x == ascii.backslash then escape.Backslash
    else if x == ascii.caret && not (before == ascii.percent) then escape.Caret
    else escape.Nothing
escape_after escape.Backslash before x = escape.Nothing
escape_after escape.Caret before x = escape.Nothing

-- whether a byte ends an item
abbrev pub cuts : Escape → ℕ → Bool
cuts escape.Nothing x = x == ascii.comma
cuts escape.Backslash x = false
cuts escape.Caret x = x == ascii.comma

-- the items with a byte at the front of the first of them, which is a new one if there is none
abbrev pub with_first : PlacedByte → List (List PlacedByte) → List (List PlacedByte)
with_first x [] = (x ∷ []) ∷ []
with_first x (item ∷ items) = (x ∷ item) ∷ items

-- the items of a text, from left to right
abbrev pub items_of : Escape → ℕ → List PlacedByte → List (List PlacedByte)
items_of by before [] = [] ∷ []
items_of by before (x ∷ xs) =
    if cuts by x.0
    then [] ∷ items_of escape.Nothing ascii.comma xs
    else with_first x (items_of (escape_after by before x.0) x.0 xs)

-- an item with one more byte at its end
abbrev pub with_byte : ItemPiece → PlacedByte → ItemPiece
with_byte p x =
    elim p.text [
      | [] ↦ if is_white_space x.0 then p else item_piece (x.0 ∷ []) x.1
      | y ∷ ys ↦ item_piece (y ∷ ys ++ x.0 ∷ []) p.line
    ]

-- The item at the front of a text was taken: `piece` has its text and line, and `rest` is left; or
-- the item was the last, and nothing is left.
pub record TakesItem (text : List PlacedByte) (piece : ItemPiece) (last : Bool) (rest : List PlacedByte) : Type 0 where
  pub item : List PlacedByte
  pub is_piece : piece_of item ≡ piece
  pub is_first : items_of escape.Nothing ascii.comma text ≡ item ∷ (if last then [] else items_of escape.Nothing ascii.comma rest)
  pub shorter : last ≡ false → length rest < length text

-- a text in front of the first of some items
abbrev pub with_text_before : List PlacedByte → List (List PlacedByte) → List (List PlacedByte)
with_text_before front [] = front ∷ []
with_text_before front (item ∷ items) = (front ++ item) ∷ items

-- An item is read so far: `seen` of it, which shows as `shown`, and `source` is left.
pub record ReadsSoFar (start : List PlacedByte) (by : Escape) (before : ℕ) (source : List PlacedByte) (shown : ItemPiece) : Type 0 where
  pub seen : List PlacedByte
  pub is_piece : piece_of seen ≡ shown
  pub items : items_of escape.Nothing ascii.comma start ≡ with_text_before seen (items_of by before source)
  pub shorter : length source ≤ length start

-- An item goes on over a run of bytes: none of them is a newline or ends the item. `by` takes the
-- first of them, which is just after `before`, and `next` the byte after the run, which is just
-- after `last`.
pub data PassesRun : (by : Escape) (before : ℕ) (run : List ℕ) (next : Escape) (last : ℕ) → Type 0 where
  takes_no_byte : {by : Escape} {before : ℕ} → PassesRun by before [] by before
  takes_byte : {by next : Escape} {before last : ℕ} {run : List ℕ} (x : ℕ) → PassesRun by before run next last → (x == ascii.newline) ≡ false
      → cuts next x ≡ false
      → PassesRun by before (run ++ x ∷ []) (escape_after next last x) x

-- the bytes of a run, all on one line
abbrev pub on_line : ℕ → List ℕ → List PlacedByte
on_line line run = map (λ b. (b, line)) run

-- A run over which an item goes on was taken from the front of `old`, and `new` is left.
pub record TakesRun (old : List PlacedByte) (by : Escape) (before : ℕ) (run : Run) (new : List PlacedByte) : Type 0 where
  pub line : ℕ
  pub whole : old ≡ on_line line run.bytes.now ++ new
  pub passes_run : PassesRun by before run.bytes.now run.escape run.last

-- However an item with this text was read up to `old`, it is read up to `new` with this longer
-- text.
abbrev pub ReadsOn : (old : List PlacedByte) (by : Escape) (before : ℕ) (text : List ℕ) (new : List PlacedByte) (next : Escape) (last : ℕ) (longer : List ℕ)
    → Type 0
ReadsOn old by before text new next last longer =
    (start : List PlacedByte) (line : ℕ) → ReadsSoFar start by before old (item_piece text line) → ReadsSoFar start next last new (item_piece longer line)

-- whether a text is empty or does not begin with white space
abbrev pub begins_visible : List ℕ → Bool
begins_visible [] = true
begins_visible (x ∷ xs) = not (is_white_space x)

-- A text goes on as an item that ends at once: it is not empty and does not begin with white space,
-- and the next byte cuts if it is a comma.
pub record IsItemText (text : List ℕ) : Type 0 where
  pub next : Escape
  pub last : ℕ
  pub some : 0 < length text
  pub visible : begins_visible text ≡ true
  pub passes_run : PassesRun escape.Nothing ascii.comma text next last
  pub ends : cuts next ascii.comma ≡ true

-- The given number of first bytes of a text are an item, and the next byte is the comma that ends
-- it.
pub record IsWholeItem (text : List ℕ) (size : ℕ) : Type 0 where
  pub within : size < length text
  pub comma : slice_index text size ≡ ascii.comma
  pub item : IsItemText (take size text)

-- An item of this text was taken with its comma from the front of `old`, all on one line, and `new`
-- is left.
pub record TakesWholeItem (old : List PlacedByte) (text : List ℕ) (line : ℕ) (new : List PlacedByte) : Type 0 where
  pub whole : old ≡ on_line line text ++ (ascii.comma, line) ∷ new
  pub item : IsItemText text

-- Wherever an item begins with white space up to `old`, it is taken: `piece` has its text and line,
-- and `new` is left; or the item was the last.
abbrev pub EndsItem : (old : List PlacedByte) (piece : ItemPiece) (last : Bool) (new : List PlacedByte) → Type 0
EndsItem old piece last new =
    (start : List PlacedByte) → ReadsSoFar start escape.Nothing ascii.comma old (item_piece [] 0) → TakesItem start piece last new
