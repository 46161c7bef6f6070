use Rattle.std.proofs.Common.{◌≡◌, take}
use Rattle.ti_source.specs.Items.{bytes}
use Rattle.source_block_hints.proofs.block.text_of.Given as goal

abbrev pub invariant-loop-placed : goal.invariant-loop-placed
invariant-loop-placed l = l.text.items ≡ bytes (take l.placed-index l.item)
