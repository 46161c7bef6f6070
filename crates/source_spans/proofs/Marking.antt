-- The name of an item, as it is found.
use Rattle.std.proofs.Common.{◌≡◌, ℕ, ◌+◌, ◌-◌, ◌<◌, ◌≤◌, ◌==◌, true, false, List, [], ◌∷◌, ◌++◌, get_or, length, take, drop, refl, sym, ap, ◌∙◌, arith}
use Rattle.std.specs.List.{slice_range}
use Rattle.std.proofs.Math.Seq.{take-append_seam}
use Rattle.std.proofs.lemmas.List.{length-append, map-append}
use Rattle.ti_text.specs.Texts.{last_byte}
use Rattle.ti_source.specs.Folding.{PlacedByte}
use Rattle.ti_source.specs.Items.{bytes}
use Rattle.ti_source.proofs.TextLemmas.{last_byte-push}
use Rattle.source_spans.specs.Touching.{without_at}
use Rattle.source_spans.proofs.Seeing.{part_more}

last_is : (xs : List PlacedByte) (x : PlacedByte) → last_byte 0 (bytes (xs ++ x ∷ [])) ≡ x.0
last_is xs x = ap (last_byte 0) (map-append (λ (y : PlacedByte). y.0) xs (x ∷ [])) ∙ last_byte-push 0 (bytes xs) x.0

without_last : (xs : List PlacedByte) (x : PlacedByte) → take (length (xs ++ x ∷ []) - 1) (xs ++ x ∷ []) ≡ xs
without_last xs x =
    let size : length (xs ++ x ∷ []) - 1 ≡ length xs = omega (arith, length-append xs (x ∷ [])) in
    ap (λ (n : ℕ). take n (xs ++ x ∷ [])) size ∙ take-append_seam xs (x ∷ [])

at_cut : (xs : List PlacedByte) (x : PlacedByte) → (x.0 == 64) ≡ true → without_at (xs ++ x ∷ []) ≡ xs
at_cut xs x is = rw (last_is xs x, is) (without_last xs x)

at_kept : (xs : List PlacedByte) (x : PlacedByte) → (x.0 == 64) ≡ false → without_at (xs ++ x ∷ []) ≡ xs ++ x ∷ []
at_kept xs x not = rw (last_is xs x, not) refl

last_one : (text : List PlacedByte) (start end : ℕ) (d : PlacedByte) → start < end → end ≤ length text
    → slice_range text start end ≡ slice_range text start (end - 1) ++ get_or text (end - 1) d ∷ []
last_one text start end d some within =
    let all : end ≡ end - 1 + 1 = omega (arith, some) in
    ap (slice_range text start) all ∙ part_more text start (end - 1) d (omega (arith, some)) (omega (arith, some, within))

pub at_is_cut : (text : List PlacedByte) (start end : ℕ) (d : PlacedByte) → start < end → end ≤ length text → ((get_or text (end - 1) d).0 == 64) ≡ true
    → slice_range text start (end - 1) ≡ without_at (slice_range text start end)
at_is_cut text start end d some within is =
    sym (ap without_at (last_one text start end d some within) ∙ at_cut (slice_range text start (end - 1)) (get_or text (end - 1) d) is)

pub at_is_none : (text : List PlacedByte) (start end : ℕ) (d : PlacedByte) → start < end → end ≤ length text → ((get_or text (end - 1) d).0 == 64) ≡ false
    → slice_range text start end ≡ without_at (slice_range text start end)
at_is_none text start end d some within not =
    sym (ap without_at (last_one text start end d some within) ∙ at_kept (slice_range text start (end - 1)) (get_or text (end - 1) d) not
    ∙ sym (last_one text start end d some within))

pub at_of_none : (text : List PlacedByte) (start end : ℕ) → end ≤ start → slice_range text start end ≡ without_at (slice_range text start end)
at_of_none text start end none =
    let size : end - start ≡ 0 = omega (arith, none) in
    ap (λ (n : ℕ). take n (drop start text)) size ∙ sym (ap (λ (n : ℕ). without_at (take n (drop start text))) size)
