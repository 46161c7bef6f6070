use Rattle.std.proofs.Common.{map, arith}
use Rattle.std.specs.String.{string_bytes}
use Rattle.source_features.proofs.Naming.{names_next}
use Rattle.source_features.proofs.completions.offered_names.Goals as goal

pub loop-at-preserved : goal.loop-at-preserved
loop-at-preserved c =
    names_next c.args.database.now (map string_bytes c.loop-at.names.items) (map string_bytes c.push_names.new.names.items) c.loop-at.at _ (omega arith)
    c.loop-at.invariant c.in_ok-push_names.ensures
