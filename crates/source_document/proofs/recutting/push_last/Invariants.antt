use Rattle.std.proofs.Common.{◌≡◌, ◌++◌, map, reverse}
use Rattle.ti_source.specs.Cutting.{blocks_from_head}
use Rattle.source_document.proofs.recutting.push_last.Given as goal

-- what is left and what was taken are the blocks
abbrev pub invariant-loop-at : goal.invariant-loop-at
invariant-loop-at l =
    blocks_from_head 10 l.before ++ reverse (map (λ text. text.now) l.texts.items)
    ≡ blocks_from_head 10 l.text ++ reverse (map (λ text. text.now) l.fn.texts.items)
