use Rattle.std.proofs.Common.{◌≡◌, map, take}
use Rattle.source_settings.specs.Published.{published_seen}
use Rattle.everyday_lint.specs.Telling as spec
use Rattle.everyday_lint.proofs.telling.told_of_all.Given as goal

-- those so far are told
abbrev pub invariant-loop-published : goal.invariant-loop-published
invariant-loop-published l = record {
  told : l.told.items ≡ spec.told_of_all l.form l.file l.text (map published_seen (take l.published-index l.all));
  text : l.walk.0 ≡ l.text;
}
