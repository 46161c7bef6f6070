use Rattle.std.proofs.Common.{arith, map}
use Rattle.std.specs.String.{string_bytes}
use Rattle.serde_json.specs.View.{view}
use Rattle.source_installed.proofs.Found.{in_turn}
use Rattle.server_answers.specs.InstalledOffers.{if_offered}
use Rattle.server_answers.proofs.installed_offers.push_offered.Goals as goal

pub loop-name-preserved : goal.loop-name-preserved
loop-name-preserved c =
    in_turn (if_offered c.args.database.now c.args.typed.now c.args.range) string_bytes c.args.names.now c.loop-name.name-index c.name-item.result
    (map view c.loop-name.items.items) (map view c.push_if_offered.new.items.items) _ (omega arith) c.name-item.is
    (rw c.as_str.ensures.value at c.in_ok-push_if_offered.ensures) c.loop-name.invariant
