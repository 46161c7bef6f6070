use Rattle.user_extension.proofs.After.{as_long}
use Rattle.user_extension.proofs.reading.read.Goals as goal

pub read-format-requires : goal.read-format-requires
read-format-requires c = (as_long _ _ _ c.in-Ok.ensures.found).0

pub after_entry-rest-requires-clause-long : goal.after_entry-rest-requires-clause-long
after_entry-rest-requires-clause-long c = (as_long _ _ _ c.in-Ok.ensures.found).0

pub after_entry-rest-requires-clause-whole : goal.after_entry-rest-requires-clause-whole
after_entry-rest-requires-clause-whole c = (as_long _ _ _ c.in-Ok.ensures.found).1
