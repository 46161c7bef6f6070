use Rattle.std.proofs.Common.{ap, map}
use Rattle.serde_json.specs.View.{view}
use Rattle.server_answers.proofs.Capabilities.{items_of_all}
use Rattle.server_answers.specs.Offers.{capability_item}
use Rattle.server_answers.proofs.offers.items_of_tables.Goals as goal

pub returns : goal.returns
returns c = items_of_all (capability_item c.args.range) _ _ _ _ (ap (map view) c.new-items.ensures.items) c.in_ok-push_items.ensures
    c.in_ok-push_items-2.ensures c.in_ok-push_items-3.ensures
