use Rattle.std.proofs.Common.{List, [], length}
use Rattle.ti_source.specs.declared.items.Escape.TheVariants as escape
use Rattle.ti_source.specs.Folding.{PlacedByte}
use Rattle.ti_source.specs.Items.{item_piece}
use Rattle.ti_source.specs.inside.Items.{ReadsSoFar}
use Rattle.ti_source.proofs.items.read_runs.Given as goal

-- wherever the item begins
abbrev pub invariant-loop-byte : goal.invariant-loop-byte
invariant-loop-byte l =
    (start : List PlacedByte) → ReadsSoFar start escape.Nothing 44 l.initial.source (item_piece [] 0)
    → ReadsSoFar start l.escape l.before l.source (item_piece l.text.items l.line)

abbrev pub decreases-loop-byte : goal.decreases-loop-byte
decreases-loop-byte l = length l.source
