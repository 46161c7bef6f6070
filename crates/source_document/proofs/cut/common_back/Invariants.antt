use Rattle.std.proofs.Common.{◌≡◌, ℕ, ◌-◌, ◌<◌, length, map, slice_get}
use Rattle.source_document.proofs.cut.common_back.Given as goal

abbrev pub invariant-loop-at : goal.invariant-loop-at
invariant-loop-at l = (k : ℕ) → k < l.at
    → slice_get (map (λ text. text.now) l.old) (length (map (λ text. text.now) l.old) - 1 - k)
    ≡ slice_get (map (λ text. text.now) l.new) (length (map (λ text. text.now) l.new) - 1 - k)
