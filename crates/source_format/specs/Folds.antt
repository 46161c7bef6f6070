-- The lines of a source that an editor may fold (own; Language Server Protocol 3.17, "Folding Range
-- Request"): an entry from its names field to its last item, and comments that follow one another.
use Rattle.ti_text.specs.Ascii as ascii
use Rattle.std.specs.Prelude.{ℕ, suc, ◌+◌, ◌==◌, ◌||◌, ◌&&◌, not, Bool, true, false, List, [], ◌∷◌, ◌++◌, if◌then◌else◌}
use Rattle.ti_source.specs.Heads.{begins_head}
use Rattle.source_format.specs.Pieces.{is_kept, lines_of}
use Rattle.source_format.specs.declared.folding.Fold.{Fold}

-- whether a line begins an entry
abbrev pub is_head_line : List ℕ → Bool
is_head_line [] = false
is_head_line (x ∷ xs) = begins_head x

-- whether a line is a comment
abbrev pub is_comment_line : List ℕ → Bool
is_comment_line [] = false
is_comment_line (x ∷ xs) = x == ascii.number_sign

-- how many of the lines after the first of an entry belong to it: those before the next entry, but
-- for the comments and blank lines at their end
abbrev pub entry_lines : List (List ℕ) → ℕ
entry_lines [] = 0
entry_lines (line ∷ lines) = if is_head_line line || (is_kept line && entry_lines lines == 0) then 0 else suc (entry_lines lines)

-- how many lines are comments, before the first that is none
abbrev pub comment_lines : List (List ℕ) → ℕ
comment_lines [] = 0
comment_lines (line ∷ lines) = if is_comment_line line then suc (comment_lines lines) else 0

-- a line and so many after it, if these are some
abbrev pub fold_of : (first more : ℕ) → Bool → List Fold
fold_of first more is_comment = if more == 0 then [] else record { first = first; last = first + more; is_comment = is_comment } ∷ []

-- what may be folded from the line of that number on: its entry, if it begins one, or the comments of
-- which it is the first
abbrev pub folds_at : ℕ → Bool → List ℕ → List (List ℕ) → List Fold
folds_at number after_comment line later =
    if is_head_line line then fold_of number (entry_lines later) false
    else if is_comment_line line && not after_comment then fold_of number (comment_lines later) true
    else []

-- what may be folded of lines, of which the first has that number
abbrev pub folds_from : ℕ → Bool → List (List ℕ) → List Fold
folds_from number after_comment [] = []
folds_from number after_comment (line ∷ lines) = folds_at number after_comment line lines ++ folds_from (number + 1) (is_comment_line line) lines

-- what may be folded of a source
abbrev pub folds_of : List ℕ → List Fold
folds_of source = folds_from 0 false (lines_of source)
