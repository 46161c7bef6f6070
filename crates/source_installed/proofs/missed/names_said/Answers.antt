use Rattle.std.proofs.Common.{arith, map}
use Rattle.std.specs.String.{string_bytes}
use Rattle.source_document.specs.Diagnostics.{diagnostic_seen}
use Rattle.source_installed.proofs.Found.{in_turn}
use Rattle.source_installed.specs.Missed.{if_missed}
use Rattle.source_installed.proofs.missed.names_said.Goals as goal

pub loop-name-preserved : goal.loop-name-preserved
loop-name-preserved c =
    in_turn (if_missed (map diagnostic_seen c.args.all.now)) string_bytes c.args.names.now c.loop-name.name-index c.name-item.result
    (map string_bytes c.loop-name.missed.items) (map string_bytes c.push_if_missed.new.names.items) _ (omega arith) c.name-item.is
    (rw c.as_str.ensures.value at c.in_ok-push_if_missed.ensures) c.loop-name.invariant
