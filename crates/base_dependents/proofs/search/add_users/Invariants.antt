use Rattle.std.proofs.Common.{take}
use Rattle.ti_text.specs.Lists.{Has}
use Rattle.base_dependents.specs.inside.Search.{AddsPassing}
use Rattle.base_dependents.proofs.search.add_users.Given as goal

abbrev pub invariant-loop-id : goal.invariant-loop-id
invariant-loop-id l = AddsPassing (Has (take l.id-index l.id-items)) l.fn.found.keys l.found.keys
