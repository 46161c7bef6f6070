use Rattle.std.proofs.Common.{◌≤◌, length}
use Rattle.tools_disk.proofs.whole.read_up_to.Given as goal

-- what was read before is within the limit
abbrev pub invariant-loop : goal.invariant-loop
invariant-loop g l = length l.bytes.items ≤ l.limit
