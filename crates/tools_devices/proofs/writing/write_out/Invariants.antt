use Rattle.std.proofs.Common.{◌≡◌, ℕ, List, ◌++◌, length}
use Rattle.tools_devices.specs.Counted.{observation}
use Rattle.tools_devices.specs.Writing.{TakesAll}
use Rattle.tools_devices.proofs.writing.write_out.Given as goal

-- the bytes before the rest are written
abbrev pub invariant-loop-rest : goal.invariant-loop-rest
invariant-loop-rest g l =
    (front : List ℕ) × (l.bytes ≡ front ++ l.rest)
    × TakesAll (observation g.W.Write.contents l.initial.writer)
    (observation g.W.Write.contents l.writer) front

abbrev pub decreases-loop-rest : goal.decreases-loop-rest
decreases-loop-rest g l = length l.rest
