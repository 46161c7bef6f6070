use Rattle.std.proofs.Common.{◌≡◌, ℕ, List, ◌++◌, length}
use Rattle.std.specs.List.{flat_map}
use Rattle.tools_devices.specs.Counted.{observation}
use Rattle.tools_devices.specs.Writing.{TakesAll}
use Rattle.tools_session.specs.Script.{hex_of}
use Rattle.tools_session.proofs.replies.write_hex.Given as goal

-- the bytes before the rest are spelled
abbrev pub invariant-loop-rest : goal.invariant-loop-rest
invariant-loop-rest g l =
    (front : List ℕ) × (l.bytes ≡ front ++ l.rest)
    × TakesAll (observation g.W.Write.contents l.initial.writer)
    (observation g.W.Write.contents l.writer) (flat_map hex_of front)

abbrev pub decreases-loop-rest : goal.decreases-loop-rest
decreases-loop-rest g l = length l.rest
