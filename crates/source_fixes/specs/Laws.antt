-- What a fix makes of a use of a name that no block has (own): it leads to another block.
use Rattle.std.specs.Prelude.{◌≡◌, ◌≢◌, ℕ, All, Contains, List, Some}
use Rattle.ti_source.specs.Cutting.{OneBlock}
use Rattle.ti_source.specs.Folding.{PlacedByte}
use Rattle.base_meaning.specs.Owner.{owner, readings}
use Rattle.source_edits.specs.Edits.{EditSeen}
use Rattle.source_fixes.specs.Fixes.{used_edits}

-- a name that is offered for one that a block uses is that of another block
abbrev pub NamesAreOfOtherBlocks : Type 0
NamesAreOfOtherBlocks =
    (blocks : List (List ℕ)) (own : ℕ) (name : List PlacedByte) (edit : EditSeen) → All OneBlock blocks → Contains (used_edits blocks own (Some name)) edit
    → (at : ℕ) × (owner (readings blocks) edit.text ≡ Some at) × (at ≢ own)
