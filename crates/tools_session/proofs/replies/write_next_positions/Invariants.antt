use Rattle.std.proofs.Common.{take}
use Rattle.std.specs.List.{flat_map}
use Rattle.tools_devices.specs.Counted.{observation}
use Rattle.tools_devices.specs.Writing.{TakesAll}
use Rattle.tools_session.specs.Replies.{next_position}
use Rattle.tools_session.proofs.replies.write_next_positions.Given as goal

-- the positions before this one were written
abbrev pub invariant-loop-position : goal.invariant-loop-position
invariant-loop-position g l =
    TakesAll (observation g.W.Write.contents l.initial.writer)
    (observation g.W.Write.contents l.writer) (flat_map next_position (take l.position-index l.positions))
