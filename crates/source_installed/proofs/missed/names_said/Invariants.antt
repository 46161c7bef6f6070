use Rattle.std.proofs.Common.{◌≡◌, ◌++◌, drop, map}
use Rattle.std.specs.List.{flat_map}
use Rattle.std.specs.String.{string_bytes}
use Rattle.source_document.specs.Diagnostics.{diagnostic_seen}
use Rattle.source_installed.specs.Missed.{if_missed}
use Rattle.source_installed.proofs.missed.names_said.Given as goal

-- the names so far, and those that are left, are all
abbrev pub invariant-loop-name : goal.invariant-loop-name
invariant-loop-name l =
    map string_bytes l.missed.items ++ flat_map (if_missed (map diagnostic_seen l.all)) (map string_bytes (drop l.name-index l.names))
    ≡ flat_map (if_missed (map diagnostic_seen l.all)) (map string_bytes l.names)
