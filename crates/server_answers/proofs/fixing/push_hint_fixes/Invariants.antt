use Rattle.std.proofs.Common.{◌≡◌, ◌++◌, map, take}
use Rattle.serde_json.specs.View.{view}
use Rattle.server_answers.specs.Fixes.{hint_fix_shown}
use Rattle.server_answers.proofs.fixing.push_hint_fixes.Given as goal

abbrev pub invariant-loop-fix : goal.invariant-loop-fix
invariant-loop-fix l = map view l.values.items ≡ map view l.fn.values.items ++ map (hint_fix_shown l.uri) (take l.fix-index l.fixes)
