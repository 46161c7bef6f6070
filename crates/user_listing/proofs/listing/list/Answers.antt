-- a source that uses no others is a listing
use Rattle.user_listing.specs.Entries.{extended_seen}
use Rattle.user_listing.proofs.Alone.{relative-alone}
use Rattle.user_listing.proofs.listing.list.Goals as goal

pub returns : goal.returns
returns c = rw (← relative-alone (extended_seen c.args.entry.now) c.args.layout.now) c.source_of.ensures
