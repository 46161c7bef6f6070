use Rattle.std.proofs.Common.{ap}
use Rattle.std.specs.Option.{option_map}
use Rattle.ti_layout.specs.Values.{content_of, content_seen}
use Rattle.everyday_constants.proofs.Holding.{given-agrees}
use Rattle.everyday_constants.proofs.entries.give_at.Goals as goal

pub set-requires : goal.set-requires
set-requires c =
    given-agrees c.args.entry.now c.in-Some.cap (content_seen c.in-Some-get.content) (content_of c.in_ok-value-in-Some-get.value)
    (option_map content_seen c.get.result) c.get.ensures (ap (option_map content_seen) c.in-Some-get.is) c.in_ok-value-in-Some-get.ensures
