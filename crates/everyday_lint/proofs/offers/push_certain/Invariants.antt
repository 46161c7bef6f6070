use Rattle.std.proofs.Common.{◌≡◌, ◌++◌, map}
use Rattle.source_fixes.specs.Fixes.{fix_seen}
use Rattle.everyday_lint.specs.Offers.{certain, offer_seen}
use Rattle.everyday_lint.proofs.offers.push_certain.Given as goal

-- those so far
abbrev pub invariant-loop-fix : goal.invariant-loop-fix
invariant-loop-fix l = map offer_seen l.offers.items ≡ map offer_seen l.fn.offers.items ++ certain l.problem (map fix_seen l.yielded)
