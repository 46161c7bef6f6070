-- A line of a block, as it is found and read (own).
use Rattle.ti_text.specs.Ascii as ascii
use Rattle.std.specs.Prelude.{ℕ, ◌≡◌, ◌+◌, ◌-◌, ◌≤◌, ◌==◌, ◌++◌, Bool, true, false, List, drop, get_or, length, take}
use Rattle.ti_source.specs.Folding.{HasNoNewline, PlacedByte, is_comment}
use Rattle.source_spans.specs.Folding.{bytes_at, without_breaks, without_comments}

-- the bytes of a block from `start` to before `end`
abbrev pub range_at : List ℕ → ℕ → ℕ → List PlacedByte
range_at block start end = bytes_at start (take (end - start) (drop start block))

-- what is read of a block from the line on that begins at `start`, which is after a break or not
abbrev pub left_at : List ℕ → Bool → ℕ → List PlacedByte
left_at block joining start = without_breaks joining (without_comments false ascii.newline (bytes_at start (drop start block)))

-- the line that begins at `start` ends at `end`, where there is its newline or nothing: of a
-- comment nothing is read, and what is after another line is after a break
pub record IsLineAt (block : List ℕ) (start end : ℕ) : Type 0 where
  pub later : start ≤ end
  pub within : end ≤ length block
  pub none : HasNoNewline (range_at block start end)
  pub first : is_comment (range_at block start end) ≡ (get_or block start 0 == ascii.number_sign)
  pub comment : (joining : Bool) → is_comment (range_at block start end) ≡ true → left_at block joining start ≡ left_at block joining (end + 1)
  pub line : (joining : Bool) → is_comment (range_at block start end) ≡ false
      → left_at block joining start ≡ without_breaks joining (range_at block start end) ++ left_at block true (end + 1)
