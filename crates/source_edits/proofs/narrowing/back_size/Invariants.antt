use Rattle.std.proofs.Common.{◌≡◌, ◌+◌, drop, reverse}
use Rattle.ti_source.specs.Items.{bytes}
use Rattle.source_edits.specs.Narrowing.{shared}
use Rattle.source_edits.proofs.narrowing.back_size.Given as goal

-- the bytes so far are alike
abbrev pub invariant-loop-count : goal.invariant-loop-count
invariant-loop-count l =
    l.count + shared (drop l.count (reverse (bytes l.e.old.now))) (drop l.count (reverse l.e.new.now)) ≡ shared (reverse (bytes l.e.old.now)) (reverse l.e.new.now)
