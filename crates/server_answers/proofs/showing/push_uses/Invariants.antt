use Rattle.std.proofs.Common.{◌≡◌, ◌++◌, map, take}
use Rattle.serde_json.specs.View.{view}
use Rattle.server_answers.specs.Shown.{use_data}
use Rattle.server_answers.proofs.showing.push_uses.Given as goal

-- the hints so far
abbrev pub invariant-loop-range : goal.invariant-loop-range
invariant-loop-range l = map view l.values.items ≡ map view l.fn.values.items ++ map use_data (take l.range-index l.uses)
