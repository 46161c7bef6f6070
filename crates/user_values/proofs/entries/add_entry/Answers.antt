use Rattle.user_values.specs.Tables.{entry_seen}
use Rattle.user_values.specs.inside.Entries.{held_seen}
use Rattle.user_values.proofs.Searching.{at_adds_nothing}
use Rattle.user_values.proofs.entries.add_entry.Goals as goal

pub returns-in-Ok-clause-added : goal.returns-in-Ok-clause-added
returns-in-Ok-clause-added c =
    at_adds_nothing (held_seen c.args.held.now) (entry_seen c.args.entry.now.value) c.in-Ok.field-0 c.requires c.in-Ok.ensures.found
