use Rattle.std.proofs.Common.{◌≡◌, ◌≤◌, length}
use Rattle.ti_layout.specs.Values.{contents, entries_of}
use Rattle.ti_compiled.specs.Image.{held_by}
use Rattle.ti_compiled.proofs.TableWalk.{Walks, below, says, leaves}
use Rattle.ti_compiled.proofs.patching.take_all_changed_away.Given as goal

abbrev pub invariant-loop-left : goal.invariant-loop-left
invariant-loop-left l = record {
  within : l.left ≤ length l.old;
  names : l.image.names ≡ l.initial.image.names;
  walks : Walks (entries_of l.old) (says (contents (entries_of l.old))) (leaves (contents (entries_of l.old)) (contents l.new)) (held_by l.image)
      (below l.left);
}

abbrev pub decreases-loop-left : goal.decreases-loop-left
decreases-loop-left l = l.left
