use Rattle.user_extension.specs.UserDefined.{rows_of}
use Rattle.user_compiling.proofs.RowLists.{row_more}
use Rattle.user_compiling.proofs.rows.push_kind.Goals as goal

pub loop-entry-preserved : goal.loop-entry-preserved
loop-entry-preserved c =
    row_more c.args.kind c.args.entries.now c.loop-entry.entry-index c.entry-item.result (rows_of c.args.rows.now.items) (rows_of c.loop-entry.rows.items)
    (rows_of c.push_entry.new.rows.items) c.loop-entry.invariant c.loop-entry-test.true c.entry-item.is c.in_ok-push_entry.ensures
