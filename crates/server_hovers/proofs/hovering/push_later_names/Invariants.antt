use Rattle.std.proofs.Common.{◌≡◌, ◌++◌, drop}
use Rattle.std.specs.String.{string_bytes}
use Rattle.server_hovers.specs.Hovers.{later_names}
use Rattle.server_hovers.proofs.hovering.push_later_names.Given as goal

abbrev pub invariant-loop-capability : goal.invariant-loop-capability
invariant-loop-capability l = string_bytes l.text ++ later_names (drop l.capability-index l.capabilities) ≡ string_bytes l.fn.text ++ later_names l.capabilities
