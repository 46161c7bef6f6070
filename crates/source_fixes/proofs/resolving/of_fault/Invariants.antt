use Rattle.std.proofs.Common.{◌≡◌, filter, map, take}
use Rattle.source_document.specs.Diagnostics.{diagnostic_seen}
use Rattle.source_edits.specs.Edits.{advice_seen}
use Rattle.source_fixes.specs.Resolving.{is_of_fault}
use Rattle.source_fixes.proofs.resolving.of_fault.Given as goal

abbrev pub invariant-loop-shown : goal.invariant-loop-shown
invariant-loop-shown l = map (λ d. diagnostic_seen d.now) l.found.items
    ≡ filter (is_of_fault l.start (advice_seen l.advice)) (map diagnostic_seen (take l.shown-index l.all))
