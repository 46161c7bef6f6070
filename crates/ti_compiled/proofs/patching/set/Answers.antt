use Rattle.std.proofs.Common.{◌≡◌}
use Rattle.ti_layout.specs.Laws.{without_cancel}
use Rattle.ti_compiled.specs.Changes.{HoldsGiven}
use Rattle.ti_compiled.specs.inside.Changes.{content_lent}
use Rattle.ti_compiled.proofs.Rooms.{when_given}
use Rattle.ti_compiled.proofs.patching.set.Goals as goal

pub set_value-requires : goal.set_value-requires
set_value-requires c = record { agrees = c.requires.agrees }

pub returns-clause-names : goal.returns-clause-names
returns-clause-names c = rw c.ok.ensures.value (when_given c.set_value.result (c.set_value.new.self.names ≡ c.args.image.now.names) c.set_value.ensures.names)

pub returns-clause-contents : goal.returns-clause-contents
returns-clause-contents c =
    rw c.ok.ensures.value (when_given c.set_value.result (HoldsGiven c.args.image.now c.set_value.new.self c.args.cap
    (without_cancel (content_lent c.args.value))) c.set_value.ensures.contents)
