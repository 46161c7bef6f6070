use Rattle.std.proofs.lemmas.Result.{on_ok_weaker}
use Rattle.user_values.specs.inside.Entries.{held_seen}
use Rattle.user_values.proofs.Searching.{merged_by}
use Rattle.user_values.proofs.table.UserTable.merge.Goals as goal

pub returns-clause-said : goal.returns-clause-said
returns-clause-said c =
    on_ok_weaker c.add_all.result
    (merged_by (held_seen c.other.inside.entries) c.args.other.now (held_seen c.self.inside.entries) c.args.self.now (held_seen c.add_all.new.held)
    c.other.view_is c.self.view_is)
    c.add_all.ensures.added
