use Rattle.std.proofs.Common.{◌≡◌, drop}
use Rattle.std.specs.Prelude.{option_map}
use Rattle.ti_layout.specs.Values.{content_seen}
use Rattle.user_changing.specs.Changes as spec
use Rattle.user_changing.specs.Changes.{edits_of}
use Rattle.user_changing.proofs.tables.after.Given as goal

-- what the changes that are left make of the value so far is what all make of the first
abbrev pub invariant-loop-change : goal.invariant-loop-change
invariant-loop-change l =
    spec.after (edits_of (drop l.change-index l.changes)) l.name (option_map content_seen l.has) ≡ spec.after (edits_of l.changes) l.name (option_map content_seen l.held)
