use Rattle.std.proofs.Common.{◌≡◌, ◌++◌, length}
use Rattle.ti_source.specs.Items.{bytes}
use Rattle.ti_source.specs.inside.Items.{field_of, after_field}
use Rattle.ti_source.proofs.items.read_field.Given as goal

abbrev pub invariant-loop-byte : goal.invariant-loop-byte
invariant-loop-byte l =
    (l.field.items ++ bytes (field_of l.source) ≡ bytes (field_of l.initial.source))
    × (after_field l.source ≡ after_field l.initial.source)

abbrev pub decreases-loop-byte : goal.decreases-loop-byte
decreases-loop-byte l = length l.source
