use Rattle.std.proofs.Common.{◌≡◌, map, take}
use Rattle.source_document.proofs.document.held_texts.Given as goal

abbrev pub invariant-loop-at : goal.invariant-loop-at
invariant-loop-at l = map (λ text. text.now) l.texts.items ≡ take l.at l.database
