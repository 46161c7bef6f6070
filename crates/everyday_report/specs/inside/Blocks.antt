-- A block of a source with what was read of it, as it is in memory.
use Rattle.std.specs.Prelude.{◌≡◌, ℕ, List, map, slice_get, Some}
use Rattle.ti_source.specs.Cutting.{OneBlock}
use Rattle.ti_source.specs.Parsing.{reading_of_text}
use Rattle.ti_source.specs.Reading.{fault_of, item_of}
use Rattle.everyday_report.specs.declared.blocks.ReadBlock.{ReadBlock}

-- its items and its faults are those of its text
pub record IsReadBlock (block : ReadBlock) : Type 0 where
  pub one : OneBlock block.text.now
  pub items : map item_of block.items.now ≡ (reading_of_text block.text.now).items
  pub faults : map fault_of block.faults.now ≡ (reading_of_text block.text.now).faults

-- it is the one at a position of these texts
pub record IsBlockAt (texts : List (List ℕ)) (at : ℕ) (block : ReadBlock) : Type 0 where
  pub position : block.at ≡ at
  pub stands : slice_get texts at ≡ Some block.text.now
  pub read : IsReadBlock block
