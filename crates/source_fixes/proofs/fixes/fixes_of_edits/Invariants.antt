use Rattle.std.proofs.Common.{◌≡◌, map}
use Rattle.source_edits.specs.Edits.{edit_seen}
use Rattle.source_fixes.specs.Fixes.{fix_seen, fixes_in}
use Rattle.source_fixes.proofs.fixes.fixes_of_edits.Given as goal

abbrev pub invariant-loop-wide : goal.invariant-loop-wide
invariant-loop-wide l = map fix_seen l.fixes.items ≡ fixes_in l.line l.block (map edit_seen l.yielded)
