use Rattle.user_relisting.proofs.Compiling.{tables_say}
use Rattle.user_relisting.proofs.Telling.{listings_say}
use Rattle.user_relisting.proofs.reading_back.listings_say_the_entry.Goals as goal

pub returns-clause-user_defined : goal.returns-clause-user_defined
returns-clause-user_defined c = listings_say c.each_kind_is_in_order.ensures c.items_are_read.ensures c.items_are_read_by_the_profile.ensures

pub returns-clause-tables : goal.returns-clause-tables
returns-clause-tables c = tables_say c.each_kind_is_in_order.ensures c.items_are_read_by_the_profile.ensures
