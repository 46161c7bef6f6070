use Rattle.std.proofs.Common.{◌≡◌, ◌++◌, map}
use Rattle.ti_source.specs.Cutting.{blocks_from_head}
use Rattle.source_document.proofs.recutting.push_first.Given as goal

-- what was taken and what is left are the blocks
abbrev pub invariant-loop-at : goal.invariant-loop-at
invariant-loop-at l =
    map (λ text. text.now) l.texts.items ++ blocks_from_head 10 l.rest ≡ map (λ text. text.now) l.fn.texts.items ++ blocks_from_head 10 l.text
