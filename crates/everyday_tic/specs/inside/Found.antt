-- The faults of the profile that were found before a source is compiled (own).
use Rattle.std.specs.Prelude.{ℕ, List, Option, Some, None}
use Rattle.std.specs.Global.{Vec}
use Rattle.ti_source.specs.declared.parsing.Rule.{Rule}
use Rattle.base_meaning.specs.declared.faults.Fault.{Fault}
use Rattle.everyday_sources.specs.Used.{AreFaults}

-- the faults in memory, if there are some, are those of these blocks
abbrev pub AreFoundFaults : Rule → List (List ℕ) → Option (Vec Fault) → Type 0
AreFoundFaults rule texts None = Unit {0}
AreFoundFaults rule texts (Some found) = AreFaults rule texts found.items
