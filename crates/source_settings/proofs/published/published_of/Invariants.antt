use Rattle.std.proofs.Common.{◌≡◌, map, take}
use Rattle.source_remarks.specs.Remarks.{remark_seen}
use Rattle.source_settings.specs.Settings.{settings_seen}
use Rattle.source_settings.specs.Published.{published, published_seen}
use Rattle.source_settings.proofs.published.published_of.Given as goal

-- what is published of the remarks so far
abbrev pub invariant-loop-remark : goal.invariant-loop-remark
invariant-loop-remark l = map published_seen l.all.items ≡ published (settings_seen l.settings) l.allowances (map remark_seen (take l.remark-index l.remarks))
