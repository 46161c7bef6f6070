use Rattle.std.proofs.Common.{◌≡◌, ◌++◌, map, take}
use Rattle.serde_json.specs.View.{view}
use Rattle.ti_caps.specs.NameOrder.{in_name_order}
use Rattle.server_answers.specs.Offers.{capability_item}
use Rattle.server_answers.proofs.offers.push_items.Given as goal

-- the items so far
abbrev pub invariant-loop-place : goal.invariant-loop-place
invariant-loop-place l =
    map view l.items.items ≡ map view l.fn.items.items ++ map (capability_item l.range) (take l.place (in_name_order l.kind))
