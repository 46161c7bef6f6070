-- A source with a byte order mark, or with lines that end in CR LF, in the layout that keeps its lines
-- (own): what is read of it is repaired, and is written with the mark and the line ends that the source
-- has.
use Rattle.std.specs.Prelude.{◌≡◌, ℕ, true, false, List, ◌++◌}
use Rattle.source_plain.specs.Laws.{has_line}
use Rattle.source_plain.specs.Reading.{mark, plain_source}
use Rattle.source_plain.specs.Writing.{has_return, with_returns, written_like}
use Rattle.source_format.specs.Laws.{IsReadAlike}
use Rattle.source_format.specs.Sources.{HasEndsOf}
use Rattle.source_kept_lines.specs.Laws.{LinesFit}
use Rattle.source_kept_lines.specs.Layout.{repaired_text}

-- a source as it is written
abbrev pub repaired_source : ℕ → List ℕ → List ℕ
repaired_source width source = written_like source (repaired_text width (plain_source source))

-- What repairing promises of the text that takes the place of a source: it is read as the source was,
-- its lines are within the width, repairing it again changes nothing, and the mark and the line ends
-- stay.
pub record IsRepaired (width : ℕ) (source text : List ℕ) : Type 0 where
  pub alike : IsReadAlike (plain_source source) (plain_source text)
  pub fits : LinesFit width (plain_source text)
  pub settled : repaired_source width text ≡ text
  pub ends : HasEndsOf source (plain_source text) text

-- each source is repaired
abbrev pub RepairedSourcesAreRepaired : Type 0
RepairedSourcesAreRepaired = (width : ℕ) (source : List ℕ) → IsRepaired width source (repaired_source width source)

-- A source each of whose lines ends in CR LF, with a mark in front, is the plain one repaired, with CR
-- LF at the end of each line and a mark in front.
abbrev pub RepairingKeepsLineEnds : Type 0
RepairingKeepsLineEnds =
    (width : ℕ) (source : List ℕ) → has_return source ≡ false → has_line source ≡ true
    → repaired_source width (mark ++ with_returns source) ≡ mark ++ with_returns (repaired_text width source)
