use Rattle.std.proofs.Common.{◌≡◌, drop, map}
use Rattle.ti_source.specs.Reading.{item_of}
use Rattle.base_meaning.specs.Owner.{readings}
use Rattle.source_blocks.specs.Deciding.{first_say}
use Rattle.source_blocks.proofs.deciding.first_say.Given as goal

abbrev pub invariant-loop-item : goal.invariant-loop-item
invariant-loop-item l =
    first_say (readings l.database) l.cap (map item_of (drop l.item-index l.items)) ≡ first_say (readings l.database) l.cap (map item_of l.items)
