use Rattle.std.proofs.Common.{◌≡◌, map, take}
use Rattle.source_remarks.specs.Hints.{hint_seen, shown_in_file}
use Rattle.source_remarks.proofs.sources.shown_on_file.Given as goal

abbrev pub invariant-loop-hint : goal.invariant-loop-hint
invariant-loop-hint l = map hint_seen l.all.items ≡ map (shown_in_file l.source l.text) (take l.hint-index l.hint-items)
