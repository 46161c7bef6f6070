-- How long an entry is.
use Rattle.std.proofs.Common.{◌≡◌, ℕ, suc, ◌+◌, ◌*◌, ◌%◌, ◌≤◌, ◌<◌, List, [], ◌∷◌, ◌++◌, length, refl, ap, ◌∙◌, arith}
use Rattle.std.proofs.lemmas.List.{length-append, length-replicate}
use Rattle.ti_caps.specs.declared.capability.Kind.TheVariants.{Flag, Number, Text}
use Rattle.ti_layout.specs.declared.layout.Format.{Format}
use Rattle.ti_layout.specs.declared.layout.Format.TheVariants.{Legacy, Extended}
use Rattle.ti_layout.specs.Layout.{Sections, header, entry_bytes, limit, entry_size, number_section, width}
use Rattle.ti_layout.specs.Image.{image, image_in, even_gap, flags_below, format_of, image_limit, numbers_below, offsets_below, sections_of, texts_below}
use Rattle.ti_layout.specs.Image.{written_count}
use Rattle.ti_layout.specs.Values.{Contents}
use Rattle.ti_layout.proofs.Below.{length-below}
use Rattle.ti_layout.proofs.Parts.{length-header}
use Rattle.ti_layout.proofs.Spelled.{length-spelled}

length-nine : (h n z f g m o s r : List ℕ) → length (h ++ n ++ z ++ f ++ g ++ m ++ o ++ s ++ r)
    ≡ length h + length n + length z + length f + length g + length m + length o + length s + length r
length-nine h n z f g m o s r = simp length-append

sums : (h n z f g m o s r x y : ℕ) → h ≡ 12 → m ≡ x → o ≡ y → h + n + 1 + f + g + m + o + s + r ≡ 13 + n + f + g + x + y + s + r
sums h n z f g m o s r x y a b c = omega arith

pub length-entry_bytes : (w : Format) (s : Sections)
    → length (entry_bytes w s) ≡ 13 + length s.names + length s.flags + length s.gap + width w * length s.numbers + 2 * length s.offsets + length
    s.strings + length s.rest
length-entry_bytes w s =
    let H = header w (suc (length s.names)) (length s.flags) (length s.numbers) (length s.offsets) (length s.strings) in
    let l = length-nine H s.names (0 ∷ []) s.flags s.gap (number_section w s.numbers) (number_section Legacy s.offsets) s.strings s.rest in
    let h : length H ≡ 12 = length-header w (suc (length s.names)) (length s.flags) (length s.numbers) (length s.offsets) (length s.strings) in
    let m = length-spelled w s.numbers in
    let o : length (number_section Legacy s.offsets) ≡ 2 * length s.offsets = length-spelled Legacy s.offsets in
    l ∙ sums _ _ 0 _ _ _ _ _ _ _ _ h m o

whole : (n f g x o s : ℕ) → 13 + n + f + g + x + 2 * o + s + 0 ≡ 12 + suc n + f + g + x + 2 * o + s
whole n f g x o s = omega arith

pub length-image_in : (w : Format) (names : List ℕ) (c : Contents)
    → length (image_in w names c) ≡ entry_size w (suc (length names)) (written_count c Flag) (written_count c Number) (written_count c Text)
    (length (texts_below c (written_count c Text)))
unfolding image_in
length-image_in w names c =
    let F = written_count c Flag in
    let f : length (flags_below c F) ≡ F = length-below _ F in
    let g : length (even_gap names F) ≡ (suc (length names) + F) % 2 = length-replicate ((suc (length names) + F) % 2) 0 in
    let m : length (numbers_below w c (written_count c Number)) ≡ written_count c Number = length-below _ (written_count c Number) in
    let o : length (offsets_below c (written_count c Text)) ≡ written_count c Text = length-below _ (written_count c Text) in
    length-entry_bytes w (sections_of w names c) ∙ rw (f, g, m, o) (whole _ _ _ _ _ _)

pub limit-le : (w : Format) → limit w ≤ 32768
limit-le Legacy = omega arith
limit-le Extended = omega arith

bounded : (l n f g x o s k : ℕ) → l ≡ 12 + suc n + f + g + x + 2 * o + s → l ≤ k → k ≤ 32768 → s < 32768
bounded l n f g x o s k e le m = omega arith

-- the entry in the format that its contents need
pub image-is : (names : List ℕ) (c : Contents) → image names c ≡ image_in (format_of c) names c
unfolding image
image-is names c = refl

pub length-image : (names : List ℕ) (c : Contents)
    → length (image names c) ≡ entry_size (format_of c) (suc (length names)) (written_count c Flag) (written_count c Number) (written_count c Text)
    (length (texts_below c (written_count c Text)))
length-image names c = ap length (image-is names c) ∙ length-image_in (format_of c) names c

-- the string table of an entry within the greater limit
pub strings_small_in : (w : Format) (names : List ℕ) (c : Contents) → length (image_in w names c) ≤ 32768
    → length (texts_below c (written_count c Text)) < 32768
strings_small_in w names c within = bounded _ _ _ _ _ _ _ 32768 (length-image_in w names c) within (omega arith)

-- the string table of an entry within its limit
pub strings_small : (names : List ℕ) (c : Contents) → length (image names c) ≤ image_limit c → length (texts_below c (written_count c Text)) < 32768
strings_small names c within =
    let l = ap length (image-is names c) in
    let m = limit-le (format_of c) in
    strings_small_in (format_of c) names c (omega arith)
