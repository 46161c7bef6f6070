-- Marks of a block.
use Rattle.std.specs.Prelude.{◌≡◌, ℕ, List, map}
use Rattle.source_block_hints.specs.declared.hint.Hint.{Hint}
use Rattle.source_remarks.specs.Hints.{mark_of}
use Rattle.source_remarks.specs.declared.marks.HintMark.{HintMark}

-- these are hints on a text, and what of the text is shown for each
pub record AreMarksOf (text : List ℕ) (marks : List HintMark) : Type 0 where
  pub hints : List Hint
  pub are : marks ≡ map (mark_of text) hints
