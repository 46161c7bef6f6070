-- What reading a block gave, as it is in memory.
use Rattle.std.specs.Prelude.{List}
use Rattle.ti_source.specs.declared.parsing.Item.{Item}
use Rattle.ti_source.specs.declared.parsing.Local.{Local}
use Rattle.source_spans.specs.declared.reading.BlockReading.{BlockReading}
use Rattle.source_spans.specs.declared.reading.BlockReading.TheVariants.{Read, Known}

-- the accepted items
abbrev pub items_in : BlockReading → List Item
items_in (Read parsed) = parsed.items.items
items_in (Known items faults) = items.now

-- the faults of its own text
abbrev pub faults_in : BlockReading → List Local
faults_in (Read parsed) = parsed.faults.items
faults_in (Known items faults) = faults.now
