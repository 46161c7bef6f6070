use Rattle.std.proofs.Common.{◌≡◌, ◌++◌, drop, map}
use Rattle.serde_json.specs.View.{view}
use Rattle.source_document.specs.Diagnostics.{diagnostic_seen}
use Rattle.source_fixes.specs.Fixes.{fix_seen}
use Rattle.server_answers.specs.Fixes.{fixes_shown}
use Rattle.server_answers.proofs.fixing.fix_values.Given as goal

-- the values so far, and those that are left, are all
abbrev pub invariant-loop-fix : goal.invariant-loop-fix
invariant-loop-fix l =
    map view l.values.items
    ++ fixes_shown l.capabilities l.installed l.document l.uri (map diagnostic_seen l.all) (map fix_seen (drop l.fix-index l.fixes))
    ≡ fixes_shown l.capabilities l.installed l.document l.uri (map diagnostic_seen l.all) (map fix_seen l.fixes)
