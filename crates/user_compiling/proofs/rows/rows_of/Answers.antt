use Rattle.std.proofs.Common.{ap}
use Rattle.user_extension.specs.UserDefined.{rows_of}
use Rattle.user_values.specs.Tables.{TableSeen, entries_seen, said_at}
use Rattle.user_compiling.proofs.RowLists.{rows_in_turn}
use Rattle.user_compiling.proofs.rows.rows_of.Goals as goal

pub returns : goal.returns
returns c =
    rows_in_turn (entries_seen c.entries-entries.result.now) (said_at c.args.table.now) (rows_of c.in_ok-rows.rows.items) (rows_of c.push_kind.new.rows.items)
    (rows_of c.push_kind-2.new.rows.items) (rows_of c.push_kind-3.new.rows.items) c.entries-entries.ensures.rise
    (λ name. ap (λ (t : TableSeen). said_at t name) c.entries-entries.ensures.seen) (ap rows_of c.in_ok-rows.ensures.items) c.in_ok-push_kind.ensures
    c.in_ok-push_kind-2.ensures c.in_ok-push_kind-3.ensures
