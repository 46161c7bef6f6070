use Rattle.std.proofs.Common.{◌≡◌, map, take}
use Rattle.source_document.specs.Diagnostics.{diagnostic_seen}
use Rattle.everyday_lint.specs.Offers as spec
use Rattle.everyday_lint.specs.Offers.{offer_seen}
use Rattle.everyday_lint.proofs.offers.offers_of.Given as goal

-- those so far
abbrev pub invariant-loop-diagnostic : goal.invariant-loop-diagnostic
invariant-loop-diagnostic l =
    map offer_seen l.offers.items ≡ spec.offers_of l.capabilities l.document (map diagnostic_seen (take l.diagnostic-index l.diagnostics))
