-- A source with a byte order mark, or with lines that end in CR LF, in its layout (own): what is read of
-- it is laid out, and is written with the mark and the line ends that the source has.
use Rattle.std.specs.Prelude.{◌≡◌, ◌||◌, ℕ, true, false, List, ◌++◌}
use Rattle.source_plain.specs.Laws.{has_line}
use Rattle.source_plain.specs.Reading.{has_mark, mark, plain_lines, plain_source}
use Rattle.source_plain.specs.Writing.{first_returns, has_return, with_returns, written_like}
use Rattle.source_format.specs.Laws.{IsReadAlike, LinesFit}
use Rattle.source_format.specs.Layout.{formatted_text}

-- a source as it is written
abbrev pub formatted_source : ℕ → List ℕ → List ℕ
formatted_source width source = written_like source (formatted_text width (plain_source source))

-- A text, of which `plain` is read, has the mark and the line ends of a source. It has a mark in front
-- exactly if the source has one, or `plain` itself begins with one. Each of its lines ends in CR LF if
-- the first line of the source does, or a line of `plain` itself does; else none does.
pub record HasEndsOf (source plain text : List ℕ) : Type 0 where
  pub mark : has_mark text ≡ (has_mark source || has_mark plain)
  pub returned : (first_returns source || has_return plain) ≡ true → text ≡ with_returns (plain_lines text)
  pub ended : (first_returns source || has_return plain) ≡ false → has_return text ≡ false

-- What formatting promises of the text that takes the place of a source: it is read as the source was,
-- its lines are within the width, formatting it again changes nothing, and the mark and the line ends
-- stay.
pub record IsLaidOut (width : ℕ) (source text : List ℕ) : Type 0 where
  pub alike : IsReadAlike (plain_source source) (plain_source text)
  pub fits : LinesFit width (plain_source text)
  pub settled : formatted_source width text ≡ text
  pub ends : HasEndsOf source (plain_source text) text

-- each source is laid out
abbrev pub FormattedSourcesAreLaidOut : Type 0
FormattedSourcesAreLaidOut = (width : ℕ) (source : List ℕ) → IsLaidOut width source (formatted_source width source)

-- A source each of whose lines ends in CR LF, with a mark in front, is the plain one in its layout,
-- with CR LF at the end of each line and a mark in front.
abbrev pub FormattingKeepsLineEnds : Type 0
FormattingKeepsLineEnds =
    (width : ℕ) (source : List ℕ) → has_return source ≡ false → has_line source ≡ true
    → formatted_source width (mark ++ with_returns source) ≡ mark ++ with_returns (formatted_text width source)
