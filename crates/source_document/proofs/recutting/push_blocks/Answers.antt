use Rattle.std.proofs.Common.{List, ℕ, map, sym, ap, ◌++◌, ◌∙◌}
use Rattle.std.proofs.lemmas.List.{append-nil}
use Rattle.source_document.proofs.TextLists.{text_of}
use Rattle.source_document.proofs.recutting.push_blocks.Goals as goal

pub returns : goal.returns
returns c =
    sym (append-nil (map text_of c.loop-block.texts.items)) ∙ ap (λ (rest : List (List ℕ)). map text_of c.loop-block.texts.items ++ rest)
    (sym c.in_default.ensures.steps.0.0) ∙ c.loop-block.invariant
