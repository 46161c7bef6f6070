use Rattle.std.proofs.Common.{◌≡◌}
use Rattle.ti_layout.specs.View.{view_contents}
use Rattle.everyday_toe.specs.Sums.{kind_added}
use Rattle.everyday_toe.proofs.sums.add_kind.Given as goal

-- the total of the capabilities before
abbrev pub invariant-loop-index : goal.invariant-loop-index
invariant-loop-index l = l.sum ≡ kind_added (view_contents l.view) l.kind l.index l.total
