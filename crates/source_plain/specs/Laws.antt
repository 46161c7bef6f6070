-- What is read of sources of other systems, and of what is written in their place (own; for the lines
-- of what is read Language Server Protocol 3.17, "Position").
use Rattle.std.specs.Prelude.{◌≡◌, ℕ, ◌==◌, Bool, true, false, List, ◌++◌}
use Rattle.std.specs.List.{list_any}
use Rattle.ti_text.specs.Ascii as ascii
use Rattle.source_places.specs.LineTexts.{line_of}
use Rattle.source_plain.specs.Reading.{has_mark, mark, plain_lines, plain_source}
use Rattle.source_plain.specs.Writing.{has_return, with_returns, written_like}

-- A text without such lines is read as it is if no byte order mark is in front of it; so is the same
-- text with CR LF at the end of each line and a mark in front.
pub record SourcesOfOtherSystemsAreRead : Type 0 where
  pub plain : (text : List ℕ) → has_return text ≡ false → plain_lines text ≡ text
  pub marked : (text : List ℕ) → has_return text ≡ false → plain_source (mark ++ with_returns text) ≡ text

-- what is written in the place of a source is read as the text
abbrev pub WritingIsReadBack : Type 0
WritingIsReadBack = (source text : List ℕ) → plain_source (written_like source text) ≡ text

-- a text that was written in the place of a source is written there as it is
abbrev pub WritingIsSettled : Type 0
WritingIsSettled = (source text : List ℕ) → written_like (written_like source text) text ≡ written_like source text

-- whether a line of a text is ended
abbrev pub has_line : List ℕ → Bool
has_line text = list_any (λ byte. byte == ascii.newline) text

-- a text that is read as it is
pub record IsPlain (text : List ℕ) : Type 0 where
  pub mark : has_mark text ≡ false
  pub lines : has_return text ≡ false

-- A text that is read as it is stays so in the place of such a source. Where every line of the source
-- ends in CR LF, every line of what is written does; where the source has a mark, so has what is
-- written; and where it has neither, the text is written as it is.
pub record LineEndsStay : Type 0 where
  pub plain : (source text : List ℕ) → IsPlain source → IsPlain text → written_like source text ≡ text
  pub marked : (source text : List ℕ) → IsPlain source → IsPlain text → written_like (mark ++ source) text ≡ mark ++ text
  pub returned : (source text : List ℕ) → IsPlain source → has_line source ≡ true → IsPlain text → written_like (with_returns source) text ≡ with_returns text
  pub both : (source text : List ℕ) → has_line source ≡ true → written_like (mark ++ with_returns source) text ≡ mark ++ with_returns text

-- The lines of a text without the CR of CR LF are those of the text, so that each place in a line is the
-- same in both. This is not so of CR CR LF, of which CR LF is read.
abbrev pub LinesStay : Type 0
LinesStay = (text : List ℕ) (line : ℕ) → has_return (plain_lines text) ≡ false → line_of (plain_lines text) line ≡ line_of text line
