use Rattle.std.proofs.Common.{arith, map}
use Rattle.serde_json.specs.View.{view}
use Rattle.source_document.specs.Diagnostics.{diagnostic_seen}
use Rattle.source_fixes.specs.Fixes.{fix_seen}
use Rattle.source_installed.proofs.Found.{in_turn}
use Rattle.server_answers.specs.Fixes.{if_offered}
use Rattle.server_answers.proofs.fixing.fix_values.Goals as goal

pub loop-fix-preserved : goal.loop-fix-preserved
loop-fix-preserved c =
    let shown = if_offered c.args.capabilities c.args.installed.now c.args.document.now c.args.uri.now (map diagnostic_seen c.args.all.now) in
    in_turn shown fix_seen c.args.fixes.now c.loop-fix.fix-index c.fix-item.result (map view c.loop-fix.values.items)
    (map view c.push_if_offered.new.values.items) _ (omega arith) c.fix-item.is c.in_ok-push_if_offered.ensures c.loop-fix.invariant
