-- what is at the index is what the entries say, and a gap says nothing
use Rattle.std.proofs.Common.{sym}
use Rattle.ti_layout.proofs.SortedEntries.{contents_nowhere}
use Rattle.ti_layout.proofs.Searched.{nowhere, content_here, agrees_here}
use Rattle.ti_layout.proofs.values.find.Goals as goal

pub returns-in-Ok-clause-found : goal.returns-in-Ok-clause-found
returns-in-Ok-clause-found c = content_here _ c.requires _ _ _ c.in-Ok.ensures.found

pub returns-in-Ok-clause-agrees : goal.returns-in-Ok-clause-agrees
returns-in-Ok-clause-agrees c = agrees_here _ c.requires _ _ _ c.in-Ok.ensures.found

pub returns-in-Err-clause-found : goal.returns-in-Err-clause-found
returns-in-Err-clause-found c = sym (contents_nowhere _ _ (nowhere _ c.requires _ _ c.in-Err.ensures.absent))
