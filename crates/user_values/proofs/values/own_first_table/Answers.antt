use Rattle.std.proofs.Common.{map}
use Rattle.user_items.specs.Reading.{user_item_of}
use Rattle.user_values.specs.Tables.{said_at}
use Rattle.user_values.proofs.Making.{own_first}
use Rattle.user_values.proofs.values.own_first_table.Goals as goal

pub returns : goal.returns
returns c =
    own_first c.args.database.now.texts (map user_item_of c.args.read.now.items.items) (said_at c.in_ok-table.table) (said_at c.in_ok-used.used)
    (said_at c.merge_values.new.self) c.in_ok-table.ensures c.in_ok-used.ensures c.in_ok-merge_values.ensures.said
