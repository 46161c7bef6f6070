use Rattle.std.proofs.Common.{◌≡◌}
use Rattle.ti_layout.specs.Values.{contents, entries_of}
use Rattle.ti_compiled.specs.Image.{held_by}
use Rattle.ti_compiled.proofs.TableWalk.{Walks, from, says, leaves}
use Rattle.ti_compiled.proofs.patching.give_all_changed.Given as goal

abbrev pub invariant-loop-entry : goal.invariant-loop-entry
invariant-loop-entry l = record {
  names : l.image.names ≡ l.initial.image.names;
  walks : Walks (entries_of l.new) (leaves (contents l.old) (contents (entries_of l.new))) (says (contents (entries_of l.new))) (held_by l.image)
      (from l.entry-index);
}
