-- The text of a block as it is read (terminfo(5); X/Open Curses Issue 7, "Terminfo Source Format"),
-- each byte with its offset in the block: the lines that are not comments, joined.
use Rattle.ti_text.specs.Ascii as ascii
use Rattle.std.specs.Prelude.{ℕ, suc, ◌≡◌, ◌<◌, ◌==◌, ◌||◌, ◌&&◌, not, All, Bool, true, false, List, [], ◌∷◌, filter, flat_map, length, slice_index}
use Rattle.std.specs.Prelude.{if◌then◌else◌}
use Rattle.ti_text.specs.WhiteSpace.{is_white_space}
use Rattle.ti_source.specs.Folding.{AreLines, Joins, PlacedByte, is_comment}

-- each byte of a text that begins at that offset
abbrev pub bytes_at : ℕ → List ℕ → List PlacedByte
bytes_at offset [] = []
bytes_at offset (byte ∷ bytes) = (byte, offset) ∷ bytes_at (suc offset) bytes

-- the bytes of lines that are not comments
abbrev pub kept_of : List (List PlacedByte) → List PlacedByte
kept_of lines = flat_map (λ line. line) (filter (λ line. not (is_comment line)) lines)

-- the folded text of a block
pub record FoldsAt (block : List ℕ) (text : List PlacedByte) : Type 0 where
  pub lines : List (List PlacedByte)
  pub are_lines : AreLines (bytes_at 0 block) lines
  pub joins : Joins (kept_of lines) text

-- a block has one folded text
abbrev pub OneFoldingAt : Type 0
OneFoldingAt = (block : List ℕ) (one other : List PlacedByte) → FoldsAt block one → FoldsAt block other → one ≡ other

-- each byte of a folded text is that of the block at its offset
abbrev pub OffsetsLead : Type 0
OffsetsLead =
    (block : List ℕ) (text : List PlacedByte) → FoldsAt block text → All (λ (x : PlacedByte). (x.1 < length block) × (slice_index block x.1 ≡ x.0)) text

-- ---- the folded text, computed

-- whether a byte is in a comment, by the byte before it and whether that one is
abbrev pub in_comment : Bool → ℕ → ℕ → Bool
in_comment comment before byte = if before == ascii.newline then byte == ascii.number_sign else comment

-- the bytes that are in no comment
abbrev pub without_comments : Bool → ℕ → List PlacedByte → List PlacedByte
without_comments comment before [] = []
without_comments comment before (x ∷ xs) =
    if in_comment comment before x.0 then without_comments true x.0 xs else x ∷ without_comments false x.0 xs

-- the bytes without each newline and the white space and newlines after it; `joining` says that
-- such a run is just before them
abbrev pub without_breaks : Bool → List PlacedByte → List PlacedByte
without_breaks joining [] = []
without_breaks joining (x ∷ xs) =
    if x.0 == ascii.newline || (joining && is_white_space x.0) then without_breaks true xs else x ∷ without_breaks false xs

-- the folded text of a block
abbrev pub folded_of : List ℕ → List PlacedByte
folded_of block = without_breaks false (without_comments false ascii.newline (bytes_at 0 block))

-- it is the folded text
abbrev pub FoldedIsComputed : Type 0
FoldedIsComputed = (block : List ℕ) → FoldsAt block (folded_of block)
