use Rattle.std.proofs.Common.{take, map}
use Rattle.std.specs.Rc.{rc_slice_items}
use Rattle.base_dependents.specs.inside.Search.{AddsPassing, IsUserOfOne}
use Rattle.base_dependents.proofs.search.add_users_of_names.Given as goal

abbrev pub invariant-loop-name : goal.invariant-loop-name
invariant-loop-name l = AddsPassing (IsUserOfOne l.slots (map rc_slice_items (take l.name-index l.names))) l.fn.found.keys l.found.keys
