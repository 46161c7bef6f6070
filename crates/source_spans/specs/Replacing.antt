-- A block with a part of an item exchanged, as an editor exchanges it (Language Server Protocol
-- 3.17, "TextEdit"): its other items stay as they were (own).
use Rattle.std.specs.Prelude.{ℕ, ◌≡◌, ◌≢◌, ◌==◌, ◌&&◌, ◌||◌, not, Bool, true, false, List, [], ◌∷◌, ◌++◌, drop, map, slice_get, slice_set, take, Option, Some}
use Rattle.std.specs.List.{find}
use Rattle.std.specs.Option.{option_map}
use Rattle.ti_text.specs.Ascii as ascii
use Rattle.ti_text.specs.WhiteSpace.{is_white_space}
use Rattle.ti_source.specs.Cutting.{OneBlock}
use Rattle.ti_source.specs.Folding.{PlacedByte}
use Rattle.ti_source.specs.Code.{is_of_header}
use Rattle.ti_source.specs.Items.{AreItems, Statement, States, bytes}
use Rattle.ti_source.specs.Parsing.{reading_of_text}
use Rattle.ti_source.specs.Reading.{ReadFault, ReadItem, Said}
use Rattle.ti_source.specs.Verdicts.{Judges, Verdict, code_by, said_by}
use Rattle.ti_source.specs.declared.code.Code.{Code}
use Rattle.source_spans.specs.Folding.{bytes_at, folded_of}
use Rattle.source_spans.specs.Parts.{spanned}
use Rattle.source_spans.specs.Subjects.{head_text, items_of}
use Rattle.source_spans.specs.declared.parts.Part.{Part}

-- a block with the bytes of a part exchanged
abbrev pub exchanged : List ℕ → Part → List ℕ → List ℕ
exchanged block part new = take part.start block ++ new ++ drop part.end block

-- the texts of the items of a block, in their order
abbrev pub item_texts : List ℕ → List (List ℕ)
item_texts block = map bytes (items_of (folded_of block))

-- a text by itself is these items
abbrev pub IsCutInto : List ℕ → List (List PlacedByte) → Type 0
IsCutInto text items = AreItems ascii.comma (bytes_at 0 text) items

-- no item ends in a text
abbrev pub IsUncut : List ℕ → Type 0
IsUncut text = IsCutInto text (bytes_at 0 text ∷ [])

-- no item ends in a text, and a comma after it ends one
abbrev pub IsClosed : List ℕ → Type 0
IsClosed text = IsCutInto (text ++ ascii.comma ∷ []) (bytes_at 0 text ∷ [] ∷ [])

-- no byte is a newline
abbrev pub IsOneLine : List ℕ → Type 0
IsOneLine [] = Unit {0}
IsOneLine (x ∷ xs) = ((x == ascii.newline) ≡ false) × IsOneLine xs

-- a text that is not empty begins with no white space
abbrev pub BeginsVisible : List ℕ → Type 0
BeginsVisible [] = ⊥
BeginsVisible (x ∷ xs) = is_white_space x ≡ false

-- A new text in the place of a part of an item makes an item of this text: no white space begins
-- the new text, no item ends in it, and if a comma ended the item it still does.
pub record Replaces (item : List PlacedByte) (part : Part) (new text : List ℕ) : Type 0 where
  pub front : List PlacedByte
  pub middle : List PlacedByte
  pub back : List PlacedByte
  pub whole : item ≡ front ++ (middle ++ back)
  pub there : spanned middle ≡ Some part
  pub is : text ≡ bytes front ++ (new ++ bytes back)
  pub visible : BeginsVisible new
  pub one_line : IsOneLine new
  pub uncut : IsUncut text
  pub closed : IsClosed (bytes item) → IsClosed text

-- once such a part is exchanged, that item has the new text, and the names field and the other
-- items have the texts that they had
abbrev pub OneItemIsReplaced : Type 0
OneItemIsReplaced =
    (block : List ℕ) (ordinal : ℕ) (item : List PlacedByte) (part : Part) (new text : List ℕ) → OneBlock block
    → slice_get (items_of (folded_of block)) ordinal ≡ Some item → Replaces item part new text
    → (item_texts (exchanged block part new) ≡ slice_set (item_texts block) ordinal text) × (head_text (exchanged block part new) ≡ head_text block)

-- whether a byte neither ends an item nor takes the next byte, wherever it is, and ends no line
abbrev pub is_plain : ℕ → Bool
is_plain x = not (x == ascii.comma || x == ascii.backslash || x == ascii.caret || x == ascii.newline)

-- each byte is so
abbrev pub IsPlain : List ℕ → Type 0
IsPlain [] = Unit {0}
IsPlain (x ∷ xs) = (is_plain x ≡ true) × IsPlain xs

-- the first byte is so, if there is one
abbrev pub BeginsPlain : List ℕ → Type 0
BeginsPlain [] = Unit {0}
BeginsPlain (x ∷ xs) = is_plain x ≡ true

-- plain bytes take the place of those after plain bytes of an item, up to its end or to a plain
-- byte: a name in the place of another, and a sign
abbrev pub PlainTextsReplace : Type 0
PlainTextsReplace =
    (block : List ℕ) (ordinal : ℕ) (front middle back : List PlacedByte) (part : Part) (new : List ℕ)
    → slice_get (items_of (folded_of block)) ordinal ≡ Some (front ++ (middle ++ back)) → spanned middle ≡ Some part
    → IsPlain (bytes front) → IsPlain new → BeginsVisible new → BeginsPlain (bytes back)
    → Replaces (front ++ (middle ++ back)) part new (bytes front ++ (new ++ bytes back))

-- ---- how the items are read then

-- what the accepted item of an ordinal says, if there is one
abbrev pub said_at : List ℕ → ℕ → Option Said
said_at block ordinal = option_map (λ (item : ReadItem). item.said) (find (λ (item : ReadItem). item.ordinal == ordinal) (reading_of_text block).items)

-- the fault of the item of an ordinal, if it has one: the first of that ordinal that is not of the
-- names field
abbrev pub fault_at : List ℕ → ℕ → Option Code
fault_at block ordinal =
    option_map (λ (fault : ReadFault). fault.code)
    (find (λ (fault : ReadFault). fault.ordinal == ordinal && not (is_of_header fault.code)) (reading_of_text block).faults)

-- an item of this text states something, on which this is the verdict
pub record IsJudgedAs (text : List ℕ) (verdict : Verdict) : Type 0 where
  pub statement : Statement
  pub states : States text (Some statement)
  pub judges : Judges statement.name statement.claim verdict

-- the item of an ordinal is read by the verdict: it says what that accepts, and has no fault but
-- the one that it gives
pub record IsReadBy (block : List ℕ) (ordinal : ℕ) (verdict : Verdict) : Type 0 where
  pub says : said_at block ordinal ≡ said_by verdict
  pub fault : (code : Code) → fault_at block ordinal ≡ Some code → code_by verdict ≡ Some code

-- once a part of an item is exchanged, the other items are read as they were
abbrev pub OthersAreReadAsBefore : Type 0
OthersAreReadAsBefore =
    (block : List ℕ) (ordinal : ℕ) (item : List PlacedByte) (part : Part) (new text : List ℕ) → OneBlock block
    → slice_get (items_of (folded_of block)) ordinal ≡ Some item → Replaces item part new text
    → (at : ℕ) → at ≢ ordinal
    → (said_at (exchanged block part new) at ≡ said_at block at) × (fault_at (exchanged block part new) at ≡ fault_at block at)

-- and that item is read as its new text
abbrev pub NewTextIsRead : Type 0
NewTextIsRead =
    (block : List ℕ) (ordinal : ℕ) (item : List PlacedByte) (part : Part) (new text : List ℕ) (verdict : Verdict) → OneBlock block
    → slice_get (items_of (folded_of block)) ordinal ≡ Some item → Replaces item part new text → IsJudgedAs text verdict
    → IsReadBy (exchanged block part new) ordinal verdict
