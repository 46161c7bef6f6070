-- Names of other blocks that are put into a list, one block after the other.
use Rattle.std.proofs.Common.{◌≡◌, ℕ, ◌+◌, ◌<◌, List, ◌++◌, drop, flat_map, length, sym, ap, ◌∙◌}
use Rattle.std.specs.List.{enumerate_from}
use Rattle.std.proofs.lemmas.List.{append_assoc}
use Rattle.source_document.specs.Diagnostics.{text_at}
use Rattle.source_blocks.proofs.Outlines.{blocks_more}
use Rattle.source_fixes.specs.Fixes.{others_in}

-- those of one more block
pub others_next : (blocks : List (List ℕ)) (own : ℕ) (before now : List (List ℕ)) (at : ℕ) (whole : List (List ℕ)) → at < length blocks
    → before ++ flat_map (others_in blocks own) (enumerate_from at (drop at blocks)) ≡ whole → now ≡ before ++ others_in blocks own (at, text_at blocks at)
    → now ++ flat_map (others_in blocks own) (enumerate_from (at + 1) (drop (at + 1) blocks)) ≡ whole
others_next blocks own before now at whole within so e =
    let here = others_in blocks own (at, text_at blocks at) in
    let rest = flat_map (others_in blocks own) (enumerate_from (at + 1) (drop (at + 1) blocks)) in
    ap (λ (t : List (List ℕ)). t ++ rest) e ∙ append_assoc before here rest
    ∙ ap (λ (t : List (List ℕ)). before ++ flat_map (others_in blocks own) (enumerate_from at t)) (sym (blocks_more blocks at within)) ∙ so
