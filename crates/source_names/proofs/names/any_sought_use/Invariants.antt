use Rattle.std.proofs.Common.{◌≡◌, drop, map}
use Rattle.ti_source.specs.Reading.{item_of}
use Rattle.base_meaning.specs.Reaching.{any_use}
use Rattle.source_names.specs.Names.{is_sought}
use Rattle.source_names.specs.inside.Seeking.{sought_seen}
use Rattle.source_names.proofs.names.any_sought_use.Given as goal

abbrev pub invariant-loop-item : goal.invariant-loop-item
invariant-loop-item l = any_use (is_sought l.database (sought_seen l.sought)) (map item_of (drop l.item-index l.items))
    ≡ any_use (is_sought l.database (sought_seen l.sought)) (map item_of l.items)
