use Rattle.std.proofs.Common.{◌≡◌, drop, map}
use Rattle.std.specs.Str.{bytes_eq}
use Rattle.ti_source.specs.Reading.{item_of}
use Rattle.base_meaning.specs.Reaching.{any_use}
use Rattle.source_names.proofs.renaming.any_use_of.Given as goal

abbrev pub invariant-loop-item : goal.invariant-loop-item
invariant-loop-item l = any_use (bytes_eq l.name) (map item_of (drop l.item-index l.items)) ≡ any_use (bytes_eq l.name) (map item_of l.items)
