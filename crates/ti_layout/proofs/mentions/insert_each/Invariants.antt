use Rattle.std.proofs.Common.{◌≡◌, take}
use Rattle.std.specs.Option.{option_or}
use Rattle.ti_caps.specs.Tables.{Capability}
use Rattle.ti_layout.specs.Values.{contents, entries_of}
use Rattle.ti_layout.proofs.mentions.insert_each.Given as goal

abbrev pub invariant-loop-mention : goal.invariant-loop-mention
invariant-loop-mention l =
    (c : Capability) → contents l.table c ≡ option_or (contents l.initial.table c) (contents (entries_of (take l.mention-index l.mentions)) c)
