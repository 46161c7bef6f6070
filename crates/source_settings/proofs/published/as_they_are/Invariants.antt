use Rattle.std.proofs.Common.{◌≡◌, map, take}
use Rattle.source_remarks.specs.Remarks.{remark_seen}
use Rattle.source_settings.specs.Published.{as_it_is, published_seen}
use Rattle.source_settings.proofs.published.as_they_are.Given as goal

-- the remarks so far
abbrev pub invariant-loop-remark : goal.invariant-loop-remark
invariant-loop-remark l = map published_seen l.all.items ≡ map as_it_is (map remark_seen (take l.remark-index l.remarks))
