use Rattle.std.proofs.Common.{◌≡◌, drop}
use Rattle.server_answers.specs.Searching.{holds}
use Rattle.server_answers.proofs.searching.holds.Given as goal

abbrev pub invariant-loop-at : goal.invariant-loop-at
invariant-loop-at l = holds l.held (drop l.at l.name) ≡ holds l.held l.name
