use Rattle.user_relisting.proofs.Using.{users_have, users_have_tables}
use Rattle.user_relisting.proofs.reading_back.users_have_the_entry.Goals as goal

pub returns-clause-user_defined : goal.returns-clause-user_defined
returns-clause-user_defined c = users_have c.each_kind_is_in_order.ensures c.items_are_read.ensures c.items_are_read_by_the_profile.ensures

pub returns-clause-tables : goal.returns-clause-tables
returns-clause-tables c = users_have_tables c.each_kind_is_in_order.ensures c.items_are_read_by_the_profile.ensures
