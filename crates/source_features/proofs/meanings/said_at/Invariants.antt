use Rattle.std.proofs.Common.{◌≡◌, drop, map}
use Rattle.ti_source.specs.Reading.{item_of}
use Rattle.source_features.specs.Meanings.{said_at}
use Rattle.source_features.proofs.meanings.said_at.Given as goal

abbrev pub invariant-loop-item : goal.invariant-loop-item
invariant-loop-item l = said_at l.ordinal (map item_of (drop l.item-index l.items)) ≡ said_at l.ordinal (map item_of l.items)
