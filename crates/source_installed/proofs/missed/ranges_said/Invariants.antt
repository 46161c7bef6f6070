use Rattle.std.proofs.Common.{◌≡◌, map, take}
use Rattle.std.specs.List.{flat_map}
use Rattle.std.specs.String.{string_bytes}
use Rattle.source_document.specs.Diagnostics.{diagnostic_seen}
use Rattle.source_installed.specs.Missed.{if_said}
use Rattle.source_installed.proofs.missed.ranges_said.Given as goal

-- the places so far
abbrev pub invariant-loop-shown : goal.invariant-loop-shown
invariant-loop-shown l = l.ranges.items ≡ flat_map (if_said (map string_bytes l.messages)) (map diagnostic_seen (take l.shown-index l.all))
