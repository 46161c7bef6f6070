use Rattle.std.proofs.Common.{◌≡◌, drop}
use Rattle.server_answers.specs.Searching.{begins_alike}
use Rattle.server_answers.proofs.searching.begins_alike.Given as goal

abbrev pub invariant-loop-at : goal.invariant-loop-at
invariant-loop-at l = begins_alike (drop l.at l.held) (drop l.at l.text) ≡ begins_alike l.held l.text
