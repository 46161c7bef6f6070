use Rattle.std.proofs.Common.{◌≡◌, ◌+◌, ◌-◌, ℕ, List, length, take, drop, min, ap, sym, ◌∙◌, arith}
use Rattle.std.proofs.lemmas.List.{drop-take, drop_min, length-take, take_min}
use Rattle.source_strings.proofs.pieces.text_of.Goals as goal

part_is : (format : List ℕ) (start end s e : ℕ) → e ≡ min end (length format) → s ≡ min start e
    → take (e - s) (drop s format) ≡ drop start (take end format)
part_is format start end s e ends starts =
    let whole : s + (e - s) ≡ e = omega (arith, starts) in
    let len : length (take end format) ≡ e = length-take end format ∙ sym ends in
    sym (drop-take s (e - s) format) ∙ ap (λ n. drop s (take n format)) (whole ∙ ends) ∙ ap (drop s) (take_min end format)
    ∙ ap (λ n. drop n (take end format)) (starts ∙ ap (min start) (sym len)) ∙ drop_min start (take end format)

pub returns : goal.returns
returns c = part_is _ _ _ _ _ c.min-end.ensures c.min-start.ensures
