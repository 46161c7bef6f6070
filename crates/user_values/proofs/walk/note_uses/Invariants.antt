use Rattle.std.proofs.Common.{take}
use Rattle.user_values.specs.inside.Walking.{NotesUses}
use Rattle.user_values.proofs.walk.note_uses.Given as goal

abbrev pub invariant-loop-edge : goal.invariant-loop-edge
invariant-loop-edge l = NotesUses (take l.edge-index l.row) l.place l.fn.last.items l.last.items
