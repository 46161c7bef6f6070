use Rattle.std.proofs.Common.{◌≡◌, ◌++◌, map}
use Rattle.ti_source.specs.Cutting.{blocks_from_head}
use Rattle.source_document.proofs.recutting.push_blocks.Given as goal

-- what was cut off and what is left are the blocks
abbrev pub invariant-loop-block : goal.invariant-loop-block
invariant-loop-block l =
    map (λ text. text.now) l.texts.items ++ l.cut.blocks ≡ map (λ text. text.now) l.fn.texts.items ++ blocks_from_head 10 l.text
