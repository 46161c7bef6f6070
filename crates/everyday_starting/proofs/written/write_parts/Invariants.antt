use Rattle.std.proofs.Common.{map, take}
use Rattle.everyday_starting.specs.Starting.{AreWritten, part_of}
use Rattle.everyday_starting.proofs.written.write_parts.Given as goal

-- the parts so far are written
abbrev pub invariant-loop-part : goal.invariant-loop-part
invariant-loop-part l = AreWritten l.line (map part_of (take l.part-index l.parts)) l.bytes.items
