use Rattle.std.proofs.Common.{◌≡◌, map, take}
use Rattle.std.specs.List.{flat_map}
use Rattle.ti_source.specs.Reading.{item_of}
use Rattle.user_items.specs.Laws.{use_in}
use Rattle.user_items.specs.Reading.{user_item_of}
use Rattle.user_items.proofs.known.uses_among.Given as goal

abbrev pub invariant-loop-item : goal.invariant-loop-item
invariant-loop-item l = map user_item_of l.uses.items ≡ flat_map use_in (map item_of (take l.item-index l.items))
