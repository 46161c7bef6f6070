use Rattle.std.proofs.Common.{◌≡◌, ℕ, List, ◌++◌, replicate, ap, ◌∙◌, subst, arith}
use Rattle.ti_layout.proofs.Assembling.{assembled, table_small}
use Rattle.ti_layout.proofs.writing.entry_bytes.Goals as goal

filled : (v w : List ℕ) (n m : ℕ) → v ≡ w ++ replicate n 0 → n ≡ m → v ≡ w ++ replicate m 0
filled v w n m e same = subst (λ (k : ℕ). v ≡ w ++ replicate k 0) same e

pub push_offsets-requires-clause-fits : goal.push_offsets-requires-clause-fits
push_offsets-requires-clause-fits c = let t = table_small _ _ _ _ c.requires.sizes c.requires.small in omega arith

pub returns : goal.returns
returns c =
    let header = c.in_ok-extend_from_slice.ensures.items ∙ ap (λ (h : List ℕ). c.in_ok-image.image.items ++ h) c.to_bytes.ensures in
    let gap = filled _ _ _ _ c.in_ok-push_fill.ensures c.gap.ensures in
    assembled _ _ _ _ c.requires.sizes c.requires.small _ _ _ _ _ _ _ _ _ c.in_ok-image.ensures.items header c.in_ok-extend_from_slice-2.ensures.items
    c.in_ok-push.ensures.items
    c.in_ok-push_flags.ensures gap c.in_ok-push_numbers.ensures c.in_ok-push_offsets.ensures c.in_ok-push_texts.ensures
