-- The word that an editor completes before a place of a block (own): the name of an item, or the
-- name that an item `use=` gives, as far as it is typed.
use Rattle.ti_text.specs.Ascii as ascii
use Rattle.std.specs.Prelude.{ℕ, ◌==◌, ◌&&◌, not, nat_lt, Bool, true, false, List, [], ◌∷◌, codes, drop, length, take, Option, None, Some, if◌then◌else◌}
use Rattle.std.specs.List.{list_any}
use Rattle.ti_source.specs.Folding.{PlacedByte}
use Rattle.ti_source.specs.Items.{is_mark, without_front}
use Rattle.source_spans.specs.Folding.{folded_of}
use Rattle.source_spans.specs.Parts.{field_of}
use Rattle.source_spans.specs.Subjects.{begins_with, items_of}
use Rattle.source_spans.specs.declared.words.Word.{Word}

-- whether a text ends in a line that has begun and is not a comment; `before` is the byte before
-- the text, and `plain` says it of the line that goes on
abbrev pub is_open : Bool → ℕ → List ℕ → Bool
is_open plain before [] = plain && not (before == ascii.newline)
is_open plain before (byte ∷ bytes) = is_open (if before == ascii.newline then not (byte == ascii.number_sign) else plain) byte bytes

-- the last of some parts
abbrev pub last_of : List (List PlacedByte) → List PlacedByte
last_of [] = []
last_of (part ∷ []) = part
last_of (part ∷ other ∷ parts) = last_of (other ∷ parts)

-- where bytes begin, or the end of the text if there are none
abbrev pub start_of : ℕ → List PlacedByte → ℕ
start_of end [] = end
start_of end (x ∷ xs) = x.1

-- the word with which an item ends; none in a value
abbrev pub word_in : ℕ → List PlacedByte → Option Word
word_in end item =
    if begins_with (codes "use=") item then Some (record { start = start_of end (without_front (drop 4 item)); used = true })
    else if list_any (λ (x : PlacedByte). is_mark x.0) item then None
    else Some (record { start = start_of end item; used = false })

-- the word with which a folded text ends; none in the names field
abbrev pub word_of : ℕ → List PlacedByte → Option Word
word_of end text = if nat_lt (length (field_of text)) (length text) then word_in end (last_of (items_of text)) else None

-- the word with which a text ends; none in a comment, nor at the start of a line
abbrev pub word_at_end : List ℕ → Option Word
word_at_end text = if is_open false ascii.newline text then word_of (length text) (folded_of text) else None

-- the word before an offset of a block
abbrev pub word_before : List ℕ → ℕ → Option Word
word_before block offset = word_at_end (take offset block)
