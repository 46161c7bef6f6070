use Rattle.std.proofs.Common.{◌≡◌, take}
use Rattle.std.specs.Option.{option_or}
use Rattle.ti_caps.specs.Tables.{Capability, IsCapability}
use Rattle.ti_layout.specs.Values.{contents, entries_of}
use Rattle.ti_layout.specs.Laws.{without_cancel}
use Rattle.base_plan.proofs.tables.merge_values.Given as goal

-- the values of the entries so far were added
abbrev pub invariant-loop-entry : goal.invariant-loop-entry
invariant-loop-entry l =
    (c : Capability) → IsCapability c → contents l.mentions c
    ≡ option_or (contents l.fn.mentions c) (without_cancel (contents (entries_of (take l.entry-index l.entry-items)) c))
