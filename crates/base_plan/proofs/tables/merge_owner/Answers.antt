use Rattle.std.proofs.lemmas.Result.{on_ok_weaker}
use Rattle.ti_layout.specs.Values.{contents}
use Rattle.base_slots.specs.Slots.{blocks_of}
use Rattle.base_plan.proofs.BlockValues.{no_fault, added_use}
use Rattle.base_plan.proofs.tables.merge_owner.Goals as goal

pub unreachable-requires : goal.unreachable-requires
unreachable-requires g c =
    no_fault (blocks_of c.args.known.now.slots.now) g.at c.args.index c.args.name.now c.in_default.field-0 c.requires.1.0 c.requires.1.1
    c.in_default.ensures.fault

pub returns : goal.returns
returns g c =
    on_ok_weaker c.merge.result
    (added_use (blocks_of c.args.known.now.slots.now) c.args.name.now (contents c.in-Ok.used.now) (contents c.args.mentions.now)
    (contents c.merge.new.self) c.in-Ok.ensures.table)
    c.merge.ensures
