use Rattle.std.proofs.Common.{take, map}
use Rattle.std.specs.Rc.{rc_slice_items}
use Rattle.base_dependents.specs.inside.Search.{AddsPassing, IsUserOfOwned}
use Rattle.base_dependents.proofs.search.add_users_of_owned.Given as goal

abbrev pub invariant-loop-name : goal.invariant-loop-name
invariant-loop-name l = AddsPassing (IsUserOfOwned l.slots l.id (map rc_slice_items (take l.name-index l.names))) l.fn.found.keys l.found.keys
