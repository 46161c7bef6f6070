-- a source that uses no others is a listing
use Rattle.ti_layout.specs.View.{entry_seen}
use Rattle.ti_list.proofs.Alone.{relative-alone}
use Rattle.ti_list.proofs.listing.list.Goals as goal

pub returns : goal.returns
returns c = rw (← relative-alone (entry_seen c.args.view.now) c.args.layout.now) c.source_of.ensures
