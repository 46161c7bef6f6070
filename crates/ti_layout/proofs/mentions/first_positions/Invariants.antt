use Rattle.std.proofs.Common.{take}
use Rattle.ti_layout.specs.inside.Mentions.{AreMentionPositions}
use Rattle.ti_layout.specs.Values.{entries_of}
use Rattle.ti_layout.proofs.mentions.first_positions.Given as goal

abbrev pub invariant-loop-index : goal.invariant-loop-index
invariant-loop-index l = AreMentionPositions (entries_of (take l.index l.mentions)) l.positions
