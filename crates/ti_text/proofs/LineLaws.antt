-- Lines add up.
use Rattle.std.proofs.Common.{◌≡◌, ◌+◌, ◌==◌, ℕ, List, cond, take, drop, ap, ◌∙◌}
use lib.Lanes.{chunk}
use Rattle.std.proofs.Math.Seq.{take-add}
use Rattle.std.proofs.lemmas.List.Sums.{sum_by-append, sum_by-take-drop}
use Rattle.ti_text.specs.Ascii as ascii
use Rattle.ti_text.specs.Lines.{line_count, LinesAdd}

pub lines_add : LinesAdd
lines_add a b = sum_by-append (λ x. cond (x == ascii.newline) 1 0) a b

-- one more part of the text
pub lines_of_more : (text : List ℕ) (at n : ℕ) → line_count (take (at + n) text) ≡ line_count (take at text) + line_count (chunk at n text)
lines_of_more text at n = ap line_count (take-add at n text) ∙ lines_add (take at text) (take n (drop at text))

-- the lines before a place and those after it
pub lines_about : (text : List ℕ) (at : ℕ) → line_count (take at text) + line_count (drop at text) ≡ line_count text
lines_about text at = sum_by-take-drop (λ x. cond (x == ascii.newline) 1 0) text at
