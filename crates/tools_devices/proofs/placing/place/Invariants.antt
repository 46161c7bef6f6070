use Rattle.std.proofs.Common.{◌≡◌, take}
use Rattle.tools_devices.specs.Placing.{entries}
use Rattle.tools_devices.specs.Tree.{Writes}
use Rattle.tools_devices.proofs.placing.place.Given as goal

-- the files so far are written, and nothing failed
abbrev pub invariant-loop-count : goal.invariant-loop-count
invariant-loop-count g l =
    Writes (take l.count (entries l.files)) (g.T.Tree.files l.initial.tree) (g.T.Tree.files l.tree)
    × (g.T.Tree.failures l.tree ≡ g.T.Tree.failures l.initial.tree)
