use Rattle.std.proofs.lemmas.Result.{on_ok_weaker}
use Rattle.user_values.specs.inside.Entries.{held_seen}
use Rattle.user_values.proofs.Uncancelling.{values_by}
use Rattle.user_values.proofs.table.UserTable.merge_values.Goals as goal

pub returns-clause-said : goal.returns-clause-said
returns-clause-said c =
    on_ok_weaker c.add_values.result
    (values_by (held_seen c.other.inside.entries) c.args.other.now (held_seen c.self.inside.entries) c.args.self.now (held_seen c.add_values.new.held)
    c.other.view_is c.self.view_is)
    c.add_values.ensures.added
