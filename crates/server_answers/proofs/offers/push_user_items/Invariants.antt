use Rattle.std.proofs.Common.{◌≡◌, ◌++◌, map, take}
use Rattle.serde_json.specs.View.{view}
use Rattle.source_descriptions.specs.UserDescriptions.{user_description_seen}
use Rattle.server_answers.specs.Offers.{user_item}
use Rattle.server_answers.proofs.offers.push_user_items.Given as goal

-- the items so far
abbrev pub invariant-loop-said : goal.invariant-loop-said
invariant-loop-said l =
    map view l.items.items ≡ map view l.fn.items.items ++ map (user_item l.range) (map user_description_seen (take l.said-index l.all))
