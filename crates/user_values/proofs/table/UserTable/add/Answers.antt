use Rattle.std.specs.Rc.{rc_slice_items}
use Rattle.std.proofs.lemmas.Result.{on_ok_weaker}
use Rattle.ti_layout.specs.Values.{content_of}
use Rattle.user_values.specs.Tables.{entry_seen}
use Rattle.user_values.specs.inside.Entries.{held_seen}
use Rattle.user_values.proofs.Searching.{added_by}
use Rattle.user_values.proofs.table.UserTable.add.Goals as goal

pub returns-clause-said : goal.returns-clause-said
returns-clause-said c =
    on_ok_weaker c.add_entry.result
    (added_by (entry_seen c.in_ok-entry.entry.value) (rc_slice_items c.args.name.now) (content_of c.args.value.now) (held_seen c.self.inside.entries)
    c.args.self.now (held_seen c.add_entry.new.held) c.in_ok-entry.ensures c.self.view_is)
    c.add_entry.ensures.added
