use Rattle.std.proofs.Common.{◌≡◌, ◌≤◌, drop}
use Rattle.source_names.specs.NameEdits.{share}
use Rattle.source_names.proofs.name_edits.share.Given as goal

-- the parts so far have theirs
abbrev pub invariant-loop-part : goal.invariant-loop-part
invariant-loop-part l = record { so : share l.rest (drop l.part-index l.later) ≡ share l.left l.later; within : l.rest ≤ l.left }
