-- The last byte of a value.
use Rattle.std.proofs.Common.{◌≡◌, ◌-◌, ℕ, suc, Option, None, Some, slice_get, List, [], ◌∷◌, length, sym, ap, arith, ◌∙◌}
use Rattle.std.specs.List.{last_or}
use Rattle.std.specs.Option.{option_and_then}
use Rattle.ti_text.specs.Texts.{last_byte}
use Rattle.ti_source.specs.Folding.{PlacedByte}
use Rattle.ti_source.specs.Items.{bytes}
use Rattle.source_edits.specs.Carets.{caret_at, caret_at_end}

last_got : (first : Option PlacedByte) (text : List PlacedByte) (x : PlacedByte) → Some x ≡ slice_get text (length text - 1) → last_or first text ≡ Some x
last_got first [] x e = cc
last_got first (y ∷ []) x e = sym e
last_got first (y ∷ z ∷ zs) x e =
    let back : length (y ∷ z ∷ zs) - 1 ≡ suc (length (z ∷ zs) - 1) = omega arith in
    last_got (Some y) (z ∷ zs) x (e ∙ ap (slice_get (y ∷ z ∷ zs)) back)

pub caret_found : (value : List PlacedByte) (x : PlacedByte) → Some x ≡ slice_get value (length value - 1) → caret_at x ≡ caret_at_end value
caret_found value x last = sym (ap (option_and_then caret_at) (last_got None value x last))

pub last_placed : (before : ℕ) (text : List PlacedByte) (x : PlacedByte) → Some x ≡ slice_get text (length text - 1) → x.0 ≡ last_byte before (bytes text)
last_placed before [] x e = cc
last_placed before (y ∷ []) x e = let same : x ≡ y = cc in ap (λ (p : PlacedByte). p.0) same
last_placed before (y ∷ z ∷ zs) x e =
    let back : length (y ∷ z ∷ zs) - 1 ≡ suc (length (z ∷ zs) - 1) = omega arith in
    last_placed y.0 (z ∷ zs) x (e ∙ ap (slice_get (y ∷ z ∷ zs)) back)
