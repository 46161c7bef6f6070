use Rattle.std.proofs.Common.{◌≡◌, ◌-◌, drop, length, reverse}
use Rattle.source_names.specs.NameEdits.{line_parts}
use Rattle.source_names.proofs.name_edits.line_parts.Given as goal

-- those of the bytes so far, the last first
abbrev pub invariant-loop-count : goal.invariant-loop-count
invariant-loop-count l = reverse l.parts.items ≡ line_parts (drop (length l.text - l.count) l.text)
