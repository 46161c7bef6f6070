use Rattle.std.proofs.Common.{◌≡◌, take}
use Rattle.user_changing.specs.Changes.{edits_of}
use Rattle.ti_c.specs.Changing.{given_edits}
use Rattle.ti_c.proofs.changing.changes_of.Given as goal

-- those so far
abbrev pub invariant-loop-change : goal.invariant-loop-change
invariant-loop-change l = edits_of l.changes.items ≡ given_edits (take l.change-index l.given)
