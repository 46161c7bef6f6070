use Rattle.std.proofs.Common.{◌≡◌, length, arith}
use Rattle.tools_devices.specs.Placing.{entries}
use Rattle.tools_sources.proofs.Filing.{one_more_block}
use Rattle.ti_tools.specs.EntryFiles.{files_at}
use Rattle.ti_tools.proofs.Filing.{filed_to_end}
use Rattle.ti_tools.proofs.entry_files.entry_files.Goals as goal

pub loop-at-preserved : goal.loop-at-preserved
loop-at-preserved c =
    one_more_block (files_at c.args.dir.now c.args.database.now) (entries c.loop-at.files.items)
    (entries c.add_block.new.files.items) c.loop-at.at c.loop-at.invariant c.in_ok-add_block.ensures

pub returns : goal.returns
returns c =
    let past : c.loop-at.at ≡ length c.args.database.now = omega arith in
    filed_to_end c.args.dir.now c.args.database.now (entries c.loop-at.files.items) c.loop-at.at past c.loop-at.invariant
