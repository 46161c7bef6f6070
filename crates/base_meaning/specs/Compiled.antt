-- The compiled entry of a block of a source (term(5)): the image of its names field and of the
-- values that its expansion gives, for a block that resolves and whose image is within its limit:
-- 32,768 bytes if a number is over 32,767, else 4,096.
use Rattle.std.specs.Prelude.{ℕ, List, length, Option, Some, None, option_and_then, slice_get, Bool, nat_lt, if◌then◌else◌}
use Rattle.ti_source.specs.declared.parsing.Rule.{Rule}
use Rattle.ti_source.specs.declared.parsing.Rule.TheVariants.{Leftmost}
use Rattle.ti_source.specs.Reading.{Reading}
use Rattle.ti_layout.specs.Image.{image, image_limit}
use Rattle.base_meaning.specs.Readings.{readings_by}
use Rattle.ti_layout.specs.Values.{Mention}
use Rattle.base_meaning.specs.Expansion.{values, expansion}

-- the image of a block that says this
abbrev pub image_of : Reading → List Mention → List ℕ
image_of block mentions = image block.field (values mentions)

-- whether the image of a block that says this is over the limit
abbrev pub is_too_large : Reading → List Mention → Bool
is_too_large block mentions = nat_lt (image_limit (values mentions)) (length (image_of block mentions))

-- the entry of a block that says this, unless the entry is over the limit
abbrev pub entry_of : Reading → List Mention → Option (List ℕ)
entry_of block mentions = if is_too_large block mentions then None else Some (image_of block mentions)

-- the entry of a block of the list
abbrev pub entry : List Reading → Reading → Option (List ℕ)
entry blocks block = option_and_then (entry_of block) (expansion blocks block)

-- what becomes of a block: it does not resolve, or its entry is over the limit, or it has one
pub data EntryState : Type 0 where
  unresolved : EntryState
  oversized : EntryState
  written : List ℕ → EntryState

-- what becomes of a block, given the mentions that its expansion gives, if it resolves
abbrev pub state_with : Reading → Option (List Mention) → EntryState
state_with block None = unresolved
state_with block (Some mentions) = if is_too_large block mentions then oversized else written (image_of block mentions)

-- what becomes of a block of the list
abbrev pub state_of : List Reading → Reading → EntryState
state_of blocks block = state_with block (expansion blocks block)

-- the entry of the block at that position of a source that is read by a rule, given by the texts of
-- its blocks
abbrev pub compiled_by : Rule → List (List ℕ) → ℕ → Option (List ℕ)
compiled_by rule texts at = option_and_then (entry (readings_by rule texts)) (slice_get (readings_by rule texts) at)

-- the same of a source that is read by the rule `Leftmost`
abbrev pub compiled : List (List ℕ) → ℕ → Option (List ℕ)
compiled texts at = compiled_by Leftmost texts at
