use Rattle.std.proofs.Common.{◌≡◌, map, take}
use Rattle.source_settings.specs.Published.{published_seen}
use Rattle.everyday_lint.specs.Telling as spec
use Rattle.everyday_lint.proofs.telling.severities_of.Given as goal

-- those so far
abbrev pub invariant-loop-published : goal.invariant-loop-published
invariant-loop-published l = l.severities.items ≡ spec.severities_of (map published_seen (take l.published-index l.all))
