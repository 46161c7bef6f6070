-- Where a part of a folded text is in its block.
use Rattle.std.proofs.Common.{◌≡◌, ℕ, suc, zero, ◌+◌, ◌-◌, ◌<◌, ◌≤◌, List, [], ◌∷◌, Some, drop, get_or, length, take, refl, ap, ap₂, ◌∙◌, arith}
use Rattle.std.proofs.lemmas.List.{get_or-drop, length-drop}
use Rattle.ti_source.specs.Folding.{PlacedByte}
use Rattle.source_spans.specs.Parts.{end_of, part_of, spanned}
use Rattle.source_spans.specs.declared.parts.Part.{Part}

end_taken : (end : ℕ) (xs : List PlacedByte) (n : ℕ) (d : PlacedByte) → n < length xs → end_of end (take (suc n) xs) ≡ suc (get_or xs n d).1
end_taken end [] n d within = absurd (omega arith)
end_taken end (x ∷ xs) zero d within = refl
end_taken end (x ∷ xs) (suc n) d within = end_taken (suc x.1) xs n d (omega (arith, within))

-- a part by its ends
abbrev part_from : ℕ → ℕ → Part
part_from start end = record { start = start; end = end }

spanned_at : (xs : List PlacedByte) (n : ℕ) (d : PlacedByte) → n < length xs → spanned (take (suc n) xs)
    ≡ Some (part_from (get_or xs 0 d).1 (suc (get_or xs n d).1))
spanned_at [] n d within = absurd (omega arith)
spanned_at (x ∷ xs) zero d within = refl
spanned_at (x ∷ xs) (suc n) d within = ap (λ (end : ℕ). Some (part_from x.1 end)) (end_taken (suc x.1) xs n d (omega (arith, within)))

pub spanned_part : (text : List PlacedByte) (part : Part) (d : PlacedByte) → part.start < part.end → part.end ≤ length text
    → spanned (part_of text part) ≡ Some (record { start = (get_or text part.start d).1; end = (get_or text (part.end - 1) d).1 + 1 })
spanned_part text part d order within =
    let n = part.end - part.start - 1 in
    let size : part.end - part.start ≡ suc n = omega (arith, order) in
    let xs = drop part.start text in
    let first : part.start + 0 ≡ part.start = omega arith in
    let last : part.start + n ≡ part.end - 1 = omega (arith, order) in
    let more : suc (get_or xs n d).1 ≡ (get_or xs n d).1 + 1 = omega arith in
    ap (λ (k : ℕ). spanned (take k xs)) size ∙ spanned_at xs n d (omega (arith, length-drop part.start text, within, order))
    ∙ ap₂ (λ (a b : ℕ). Some (part_from a b))
    (ap (λ (x : PlacedByte). x.1) (get_or-drop part.start text 0 d) ∙ ap (λ (k : ℕ). (get_or text k d).1) first)
    (more ∙ ap (λ (x : PlacedByte). x.1 + 1) (get_or-drop part.start text n d) ∙ ap (λ (k : ℕ). (get_or text k d).1 + 1) last)
