use Rattle.std.proofs.Common.{◌≡◌, ◌+◌, drop}
use Rattle.ti_source.specs.Items.{bytes}
use Rattle.source_edits.specs.Narrowing.{shared}
use Rattle.source_edits.proofs.narrowing.shared.Given as goal

-- the bytes so far are alike
abbrev pub invariant-loop-at : goal.invariant-loop-at
invariant-loop-at l = l.at + shared (drop l.at (bytes l.old)) (drop l.at l.new) ≡ shared (bytes l.old) l.new
