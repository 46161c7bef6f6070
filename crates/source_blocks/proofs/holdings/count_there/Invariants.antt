use Rattle.std.proofs.Common.{◌≡◌, ◌≤◌}
use Rattle.ti_layout.specs.Image.{of_kind}
use Rattle.ti_layout.specs.View.{view_contents}
use Rattle.source_blocks.specs.Holdings.{count_there}
use Rattle.source_blocks.proofs.holdings.count_there.Given as goal

abbrev pub invariant-loop-index : goal.invariant-loop-index
invariant-loop-index l = record {
  so : l.there ≡ count_there (of_kind (view_contents l.view) l.kind) l.index;
  few : l.there ≤ l.index;
}
