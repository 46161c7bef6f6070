use Rattle.source_names.proofs.Renamed.{blocks_say, entries_hold, uses_lead}
use Rattle.source_names.proofs.renaming.renames_keep_entries.Goals as goal

pub returns-clause-uses : goal.returns-clause-uses
returns-clause-uses c = uses_lead

pub returns-clause-sayings : goal.returns-clause-sayings
returns-clause-sayings c = blocks_say

pub returns-clause-entries : goal.returns-clause-entries
returns-clause-entries c = entries_hold
