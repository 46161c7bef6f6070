-- The folded text of a block, computed, and the law that it is that of `Folding` (own).
use Rattle.ti_text.specs.Ascii as ascii
use Rattle.std.specs.Prelude.{◌≡◌, ℕ, ◌+◌, Bool, true, false, ◌||◌, ◌&&◌, ◌==◌, if◌then◌else◌, List, [], ◌∷◌}
use Rattle.ti_text.specs.WhiteSpace.{is_white_space}
use Rattle.ti_source.specs.Folding.{PlacedByte, Folds}

-- the bytes of a text that begins on a line
abbrev pub bytes_on_lines : ℕ → List ℕ → List PlacedByte
bytes_on_lines line [] = []
bytes_on_lines line (b ∷ bs) = (b, line) ∷ bytes_on_lines (if b == ascii.newline then line + 1 else line) bs

-- whether a byte is in a comment, a line that begins with `#`; `before` is the byte just before it,
-- and `comment` says it of that byte
abbrev pub in_comment : Bool → ℕ → ℕ → Bool
in_comment comment before b = if before == ascii.newline then b == ascii.number_sign else comment

-- the bytes that are in no comment
abbrev pub without_comments : Bool → ℕ → List PlacedByte → List PlacedByte
without_comments comment before [] = []
without_comments comment before (x ∷ xs) =
    if in_comment comment before x.0
    then without_comments true x.0 xs
    else x ∷ without_comments false x.0 xs

-- the bytes without each newline and the run of white space and newlines after it; `joining` says
-- that such a run is just before them
abbrev pub without_breaks : Bool → List PlacedByte → List PlacedByte
without_breaks joining [] = []
without_breaks joining (x ∷ xs) =
    if x.0 == ascii.newline || (joining && is_white_space x.0)
    then without_breaks true xs
    else x ∷ without_breaks false xs

-- the folded text of a block: comments are left out first, then line breaks; before a block comes a
-- newline, and its lines are counted from 1
abbrev pub folding_of : List ℕ → List PlacedByte
folding_of block = without_breaks false (without_comments false ascii.newline (bytes_on_lines 1 block))

-- a block has the folded text that is computed, and no other
pub record FoldingIsComputed : Type 0 where
  pub folds : (block : List ℕ) → Folds block (folding_of block)
  pub only : (block : List ℕ) (text : List PlacedByte) → Folds block text → text ≡ folding_of block

-- what follows the first line of a text
abbrev pub after_line : List ℕ → List ℕ
after_line [] = []
after_line (b ∷ bs) = if b == ascii.newline then bs else after_line bs

-- White space was passed over at the front of `old`, and `new` is left.
pub data SkipsWhiteSpace : (old new : List PlacedByte) → Type 0 where
  skips_nothing : {old : List PlacedByte} → SkipsWhiteSpace old old
  skips_byte : {old new : List PlacedByte} (x : PlacedByte) → SkipsWhiteSpace old (x ∷ new) → is_white_space x.0 ≡ true → SkipsWhiteSpace old new
