use Rattle.std.proofs.Common.{◌≡◌, length}
use Rattle.ti_source.specs.Items.{without_white_front}
use Rattle.ti_source.proofs.items.strip.Given as goal

abbrev pub invariant-loop-first : goal.invariant-loop-first
invariant-loop-first l = without_white_front l.kept ≡ without_white_front l.text

abbrev pub decreases-loop-first : goal.decreases-loop-first
decreases-loop-first l = length l.kept
