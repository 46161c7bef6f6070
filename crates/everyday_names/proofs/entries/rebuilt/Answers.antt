use Rattle.std.proofs.Common.{◌≡◌, ◌∙◌, ◌+◌, ◌-◌, List, ℕ, ap, arith, drop, refl, slice_range, take}
use Rattle.ti_layout.specs.Layout.{numbers_offset}
use Rattle.everyday_names.proofs.Named.{chained, named-from}
use Rattle.everyday_names.proofs.entries.rebuilt.Goals as goal

pub returns : goal.returns
returns c =
    let bytes = c.args.bytes.now in
    let field = c.args.field.now in
    let old = c.read-old.ensures in
    chained _ _ _ _ _ _ _ _ _ _ _ _ _ c.new-entry.ensures.items c.in_ok-extend_from_slice.ensures.items c.in_ok-extend_from_slice-2.ensures.items
    c.in_ok-push.ensures.items c.in_ok-extend_from_slice-3.ensures.items c.in_ok-push_fill.ensures c.in_ok-extend_from_slice-4.ensures.items
    ∙ named-from bytes field _ _ _ _ _ _ _ _ _ _ c.to_bytes.ensures refl old.format old.flags old.numbers old.texts old.strings
    (c.front.ensures ∙ ap (take c.read-old.result.flags) c.behind-flags.ensures ∙ at bytes _ _ _ _ _ c.flags_offset.ensures old.names old.flags)
    refl
    (c.behind.ensures ∙ ap (λ (n : ℕ). drop n bytes) (c.numbers_offset.ensures ∙ same _ _ _ _ old.names old.flags))
  where
    at : (bytes : List ℕ) (x n f m g : ℕ) → x ≡ 12 + n → n ≡ m → f ≡ g → take f (drop x bytes) ≡ slice_range bytes (12 + m) (12 + m + g)
    at bytes x n f m g a b d =
        let size : f ≡ 12 + m + g - (12 + m) = omega (arith, d) in
        ap (λ (k : ℕ). take k (drop x bytes)) size ∙ ap (λ (k : ℕ). take (12 + m + g - (12 + m)) (drop k bytes)) (omega (arith, a, b))

    same : (n f m g : ℕ) → n ≡ m → f ≡ g → numbers_offset n f ≡ numbers_offset m g
    same n f m g a b = rw (a, b) refl
