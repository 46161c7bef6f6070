-- Items added to a reading one by one.
use Rattle.std.proofs.Common.{◌≡◌, ℕ, ◌+◌, ◌<◌, ◌^◌, List, ◌++◌, length, map}
use Rattle.ti_source.specs.declared.items.Escape.TheVariants as escape
use Rattle.ti_source.specs.Folding.{PlacedByte}
use Rattle.ti_source.specs.inside.Items.{items_of}
use Rattle.ti_source.specs.Reading.{Reading}
use Rattle.ti_source.specs.Judging.{items_from, faults_from}
use Rattle.ti_source.specs.inside.Parsing.{judged_of}

-- The items of `start` were added to `old` so far, `ordinal` items in all. Those of `source` are
-- still to come.
pub record AddsSoFar (start : List PlacedByte) (old : Reading) (ordinal : ℕ) (source : List PlacedByte) (now : Reading) : Type 0 where
  pub same_rule : now.rule ≡ old.rule
  pub same_field : now.field ≡ old.field
  pub same_names : now.names ≡ old.names
  pub items : now.items ++ items_from ordinal (map judged_of (items_of escape.Nothing 44 source)) ≡ old.items
      ++ items_from 0 (map judged_of (items_of escape.Nothing 44 start))
  pub faults : now.faults ++ faults_from ordinal (map judged_of (items_of escape.Nothing 44 source)) ≡ old.faults
      ++ faults_from 0 (map judged_of (items_of escape.Nothing 44 start))
  pub few : ordinal + length source < 2 ^ 64
