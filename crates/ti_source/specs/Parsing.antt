-- What a block says (terminfo(5); X/Open Curses Issue 7, "Terminfo Source Format").
pub use Rattle.ti_source.specs.Verdicts.{Verdict, accepted, accepted_odd, refused, is_import, Judges}
pub use Rattle.ti_source.specs.Verdicts.{said_by, code_by, item_fault, items_by, faults_by, header_fault}
pub use Rattle.ti_source.specs.Judging.{Judged, IsJudged, item_ignored, item_judged, AreJudged, no_item, item_and_rest, reading_by}
pub use Rattle.ti_text.specs.Limits.{names_max}
use Rattle.ti_text.specs.Ascii as ascii
use Rattle.std.specs.Prelude.{◌≡◌, ℕ, List, map, Option}
use Rattle.ti_source.specs.Header.{ReadsNames}
use Rattle.ti_source.specs.Folding.{PlacedByte, Folds}
use Rattle.ti_source.specs.Items.{Begins, AreItems, bytes}
use Rattle.ti_source.specs.declared.parsing.Rule.TheVariants.{Leftmost}
use Rattle.ti_source.specs.Reading.{Reading}
use Rattle.ti_source.specs.inside.Header.{header_names}
use Rattle.ti_source.specs.inside.Parsing.{block_field, judged_of}
use Rattle.ti_source.specs.Walking.{block_items}

-- how a block is read: its folded text is a names field and a rest, the rest is items, and each
-- item is judged by itself
pub record Parses (block : List ℕ) (reading : Reading) : Type 0 where
  pub text : List PlacedByte
  pub field : List PlacedByte
  pub rest : List PlacedByte
  pub items : List (List PlacedByte)
  pub names : Option (List (List ℕ))
  pub judged : List (Option Judged)
  pub folds : Folds block text
  pub begins : Begins text field rest
  pub cut : AreItems ascii.comma rest items
  pub reads_names : ReadsNames (bytes field) names
  pub are_judged : AreJudged items judged
  pub is : reading ≡ reading_by (bytes field) names judged

-- the reading of a block: by the laws below, the one that it parses to
unfoldable pub reading_of_text : List ℕ → Reading
reading_of_text block = reading_by (block_field block) (header_names (block_field block)) (map judged_of (block_items block))

-- each block has that reading
abbrev pub HasReading : Type 0
HasReading = (block : List ℕ) → Parses block (reading_of_text block)

-- a block has no two readings
abbrev pub BlocksHaveOneReading : Type 0
BlocksHaveOneReading = (block : List ℕ) (one other : Reading) → Parses block one → Parses block other → one ≡ other

-- a block is read for the rule of the leftmost mention, whatever it says
abbrev pub BlocksAreLeftmost : Type 0
BlocksAreLeftmost = (block : List ℕ) → (reading_of_text block).rule ≡ Leftmost
