use Rattle.user_relisting.proofs.RelatedTables.{tables_say_there}
use Rattle.user_relisting.proofs.Telling.{relatives_say_there}
use Rattle.user_relisting.proofs.reading_back.relatives_say_the_entry_in_a_source.Goals as goal

pub returns-clause-user_defined : goal.returns-clause-user_defined
returns-clause-user_defined c = relatives_say_there c.each_kind_is_in_order.ensures c.items_are_read.ensures c.items_are_read_by_the_profile.ensures

pub returns-clause-tables : goal.returns-clause-tables
returns-clause-tables c = tables_say_there c.each_kind_is_in_order.ensures c.items_are_read_by_the_profile.ensures
