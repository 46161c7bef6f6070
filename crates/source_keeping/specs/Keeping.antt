-- Which lines of a text are comments or blank, and which edits leave them as they are (own; Language
-- Server Protocol 3.17, "TextEdit").
use Rattle.ti_text.specs.Ascii as ascii
use Rattle.std.specs.Prelude.{ℕ, ◌≡◌, ◌≤◌, ◌==◌, ◌&&◌, not, Bool, true, if◌then◌else◌, List, [], ◌∷◌, ◌++◌, drop, map, take, Option, Some, None}
use Rattle.std.specs.List.{list_all, slice_range}
use Rattle.source_format.specs.Pieces.{is_kept, lines_of}

-- ---- in its place

-- a line, if it is a comment or blank
abbrev pub if_kept : List ℕ → Option (List ℕ)
if_kept line = if is_kept line then Some line else None

-- the lines of a text in their order: each comment and each blank line as it is, and no more of each
-- other than that it is there
abbrev pub kept_in : List ℕ → List (Option (List ℕ))
kept_in text = map if_kept (lines_of text)

-- a text has as many lines as it had before, the same comments and blank lines, and each of them on
-- the line that it was on
abbrev pub KeepsLines : (before after : List ℕ) → Type 0
KeepsLines before after = kept_in after ≡ kept_in before

-- ---- an edit within a line

-- the line that a text ends in, as far as it goes, if the text comes after the part of a line
abbrev pub open_line : List ℕ → List ℕ → List ℕ
open_line line [] = line
open_line line (x ∷ xs) = if x == ascii.newline then open_line [] xs else open_line (line ++ x ∷ []) xs

-- no byte ends a line
abbrev pub has_no_newline : List ℕ → Bool
has_no_newline text = list_all (λ byte. not (byte == ascii.newline)) text

-- whether a text after what a line begins with is within the line, and makes it neither a comment
-- nor blank
abbrev pub goes_on_line : List ℕ → List ℕ → Bool
goes_on_line line text = has_no_newline text && not (is_kept (line ++ text))

-- whether a part of a text and what takes its place are so: an edit within a line of items, which it
-- leaves one
abbrev pub stays_in_line : List ℕ → (start end : ℕ) → List ℕ → Bool
stays_in_line text start end new =
    goes_on_line (open_line [] (take start text)) (slice_range text start end) && goes_on_line (open_line [] (take start text)) new

-- such an edit keeps the comments and blank lines
abbrev pub EditsInLinesKeepLines : Type 0
EditsInLinesKeepLines =
    (text : List ℕ) (start end : ℕ) (new : List ℕ) → start ≤ end → stays_in_line text start end new ≡ true
    → KeepsLines text (take start text ++ (new ++ drop end text))
