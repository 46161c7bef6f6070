use Rattle.std.proofs.Common.{arith}
use Rattle.source_edits.proofs.Listing.{seen}
use Rattle.source_fixes.proofs.Listing.{others_next}
use Rattle.source_fixes.proofs.uses.other_names.Goals as goal

pub loop-at-preserved : goal.loop-at-preserved
loop-at-preserved c =
    others_next c.args.database.now c.args.own (seen c.loop-at.names.items) (seen c.push_other.new.names.items) c.loop-at.at _ (omega arith)
    c.loop-at.invariant c.in_ok-push_other.ensures
