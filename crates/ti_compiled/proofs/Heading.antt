-- The header of an image has the sizes of what it holds.
use Rattle.std.proofs.Common.{◌≡◌, ℕ, suc, ◌+◌, ◌-◌, ◌≤◌, ◌<◌, List, [], ◌∷◌, length, drop, take, sym, ap, ◌∙◌, subst, arith}
use Rattle.std.proofs.lemmas.List.{length-append, take-take}
use Rattle.ti_caps.specs.declared.capability.Kind.TheVariants.{Flag, Number, Text}
use Rattle.ti_layout.specs.declared.header.Header.{Header}
use Rattle.ti_layout.specs.Image.{image, image_in, format_of, sections_of, written_count, texts_below}
use Rattle.ti_layout.specs.Reading.{IsHeaderAt, names_section, names_size, word_at}
use Rattle.ti_layout.specs.Sizes.{HasSizes, at_most_max}
use Rattle.ti_layout.specs.Values.{Contents}
use Rattle.ti_layout.proofs.Below.{length-below}
use Rattle.ti_layout.proofs.ImageReading.{Sound, sections-sound, counts}
use Rattle.ti_layout.proofs.Parts.{Found, found}
use Rattle.ti_layout.proofs.Sizes.{strings_small}
use Rattle.ti_compiled.specs.inside.Image.{names_in, contents_in, IsImaged, IsImage}

pub found_image : (names : List ℕ) (c : Contents) → IsImaged names c → Found (image names c) (format_of c) (sections_of (format_of c) names c)
unfolding image image_in
found_image names c is =
    let sound : Sound names c = record { some = is.some; short = is.short; no_nul = is.no_nul; agree = is.agree; small = strings_small names c is.within } in
    found (format_of c) (sections_of (format_of c) names c) (sections-sound names c sound)

pub found_in : (b : List ℕ) → IsImage b → Found b (format_of (contents_in b)) (sections_of (format_of (contents_in b)) (names_in b) (contents_in b))
found_in b is = subst (λ (x : List ℕ). Found x (format_of (contents_in b)) (sections_of (format_of (contents_in b)) (names_in b) (contents_in b)))
    (sym is.whole) (found_image (names_in b) (contents_in b) is.imaged)

-- the names lie between the header and their NUL
pub record Named (b : List ℕ) (size : ℕ) : Type 0 where
  pub some : 1 ≤ size
  pub within : 12 + size ≤ length b
  pub are : take (12 + size - 1 - 12) (drop 12 b) ≡ names_in b

pub named_in : (b : List ℕ) → IsImage b → (size : ℕ) → size ≡ word_at 2 b → Named b size
named_in b is size e =
    let f = found_in b is in
    let s : size ≡ suc (length (names_in b)) = e ∙ f.names_size in
    let w = f.whole in
    let n : length (names_section b) ≡ size = ap (λ (x : List ℕ). length x) f.names ∙ length-append (names_in b) (0 ∷ []) ∙ omega (arith, s) in
    record {
      some = omega arith;
      within = omega arith;
      are =
          let m : 12 + size - 1 - 12 ≡ length (names_section b) - 1 = omega arith in
          let o : length (names_section b) - 1 ≤ 12 + names_size b - 12 = omega arith in
          ap (λ x. take x (drop 12 b)) m ∙ sym (take-take (length (names_section b) - 1) (12 + names_size b - 12) (drop 12 b) o);
    }

small_max : (n : ℕ) → n < 32768 → n ≡ at_most_max n
small_max n lt = omega arith

module _ (b : List ℕ) (h : Header) (is : IsImage b) (at : IsHeaderAt b h) where
  f : Found b (format_of (contents_in b)) (sections_of (format_of (contents_in b)) (names_in b) (contents_in b))
  f = found_in b is

  pub strings_read : h.strings ≡ length (texts_below (contents_in b) (written_count (contents_in b) Text))
  strings_read = at.strings ∙ f.strings_size

  small : length (texts_below (contents_in b) (written_count (contents_in b) Text)) < 32768
  small = strings_small (names_in b) (contents_in b) is.imaged.within

  pub names_short : h.names ≤ 128
  names_short = let e = at.names ∙ f.names_size in let s = is.imaged.short in omega arith

  pub strings_short : h.strings < 32768
  strings_short = let e = strings_read in let s = small in omega arith

  pub sizes_read : HasSizes (names_in b) (contents_in b) h
  sizes_read =
      let c = contents_in b in
      let n = counts c in
      let flags : h.flags ≡ written_count c Flag = at.flags ∙ f.flag_count ∙ length-below _ (written_count c Flag) in
      let numbers : h.numbers ≡ written_count c Number = at.numbers ∙ f.number_count ∙ length-below _ (written_count c Number) in
      let texts : h.texts ≡ written_count c Text = at.texts ∙ f.text_count ∙ length-below _ (written_count c Text) in
      let nf = n.flags in
      let nn = n.numbers in
      let nt = n.texts in
      record {
        format = at.format ∙ f.format_is;
        names = at.names ∙ f.names_size;
        flags = flags;
        numbers = numbers;
        texts = texts;
        strings = strings_read ∙ small_max _ small;
        flags_fit = omega arith;
        numbers_fit = omega arith;
        texts_fit = omega arith;
      }
