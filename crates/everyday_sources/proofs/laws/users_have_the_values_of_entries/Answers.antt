use Rattle.everyday_sources.proofs.Values.{blocks_say, blocks_say_tables, further_blocks, users_have, users_have_tables}
use Rattle.everyday_sources.proofs.laws.users_have_the_values_of_entries.Goals as goal

pub returns-clause-blocks : goal.returns-clause-blocks
returns-clause-blocks c = further_blocks

pub returns-clause-user_defined : goal.returns-clause-user_defined
returns-clause-user_defined c = blocks_say c.read_entries_have_listings.ensures c.listings_say_the_entry.ensures.user_defined

pub returns-clause-tables : goal.returns-clause-tables
returns-clause-tables c = blocks_say_tables c.read_entries_have_listings.ensures c.listings_say_the_entry.ensures.tables

pub returns-clause-users : goal.returns-clause-users
returns-clause-users c = users_have c.read_entries_have_listings.ensures c.users_have_the_entry.ensures.user_defined

pub returns-clause-users_of_tables : goal.returns-clause-users_of_tables
returns-clause-users_of_tables c = users_have_tables c.read_entries_have_listings.ensures c.users_have_the_entry.ensures.tables
