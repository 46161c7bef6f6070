use Rattle.std.proofs.Common.{map}
use Rattle.std.specs.Rc.{rc_slice_items}
use Rattle.tools_sources.specs.inside.Names.{IsAsciiName}
use Rattle.tools_sources.proofs.Filing.{holds_once}
use Rattle.tools_sources.proofs.entry_files.add_owned.Goals as goal

pub push_file-requires : goal.push_file-requires
push_file-requires c =
    let each = rw (← c.deref-name-items.ensures.value) at c.in_ok-once.ensures in
    holds_once IsAsciiName (λ name. rc_slice_items name.now) c.deref-name-items.result.now c.loop-name.name-index c.name-item.result
    c.as_slice-name.result.now (map rc_slice_items c.args.names.now)
    c.loop-name-test.true c.name-item.is c.as_slice-name.ensures.value each c.requires
