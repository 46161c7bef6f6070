use Rattle.std.proofs.Common.{◌≤◌, All, Bor, List, ℕ, length, take}
use Rattle.ti_text.specs.Limits.{block_bytes_max}
use Rattle.source_document.proofs.taking.are_few_and_short.Given as goal

-- the texts before are short
abbrev pub invariant-loop-text : goal.invariant-loop-text
invariant-loop-text l = All (λ (text : Bor (List ℕ)). length text.now ≤ block_bytes_max) (take l.text-index l.texts)
