-- An image in which a number changes, byte for byte.
use Rattle.std.proofs.Common.{◌≡◌, ◌≢◌, ℕ, zero, suc, ◌+◌, ◌*◌, ◌%◌, ◌<◌, ◌≤◌, true, false, List, [], ◌∷◌, ◌++◌, length, take, set, get_or, Option, Some}
use Rattle.std.proofs.Common.{None, IfSome, refl, sym, ap, ◌∙◌, append_assoc, arith}
use Rattle.ti_caps.specs.Tables.{capability}
use Rattle.ti_caps.specs.declared.capability.Kind.TheVariants.{Number, Text}
use Rattle.ti_layout.specs.declared.layout.Format.{Format}
use Rattle.ti_layout.specs.declared.layout.Format.TheVariants.{Legacy, Extended}
use Rattle.ti_layout.specs.declared.header.Header.{Header}
use Rattle.ti_layout.specs.Image.{image, below, format_of, is_there, image_limit, number_value, of_kind, offsets_below, texts_below, written_count}
use Rattle.ti_layout.specs.Layout.{absent_mark, header, number_bytes, number_section, width}
use Rattle.ti_layout.specs.Sizes.{HasSizes, at_most_max}
use Rattle.ti_layout.specs.Values.{Content, content_true, content_number, content_text, content_cancelled, Contents, AgreesIfSome}
use Rattle.ti_layout.proofs.Assembling.{header_written}
use Rattle.ti_layout.proofs.Below.{length-below, get_or-below, last_passing-is}
use Rattle.ti_layout.proofs.Spelled.{length-spelled, spelled-append, spelled-one}
use Rattle.ti_compiled.specs.inside.Changes.{number_content, wide_value, with_number, HasNumbers}
use Rattle.ti_compiled.specs.inside.Image.{names_in, contents_in, IsImage}
use Rattle.ti_compiled.specs.inside.Bytes.{Replaces, with_length}
use Rattle.ti_compiled.proofs.FlagPlaces.{length_sized}
use Rattle.ti_compiled.proofs.Given.{given_here, given_place}
use Rattle.ti_compiled.proofs.ReadAgain.{given_agrees}
use Rattle.ti_compiled.proofs.NumberPlaces.{after_numbers, before_numbers, length_before, number_frame, number_in, numbers_from}
use Rattle.ti_compiled.proofs.Replacing.{length-resized}
use Rattle.ti_compiled.proofs.Resizing.{set-below, take-below}
use Rattle.ti_compiled.proofs.Same.{same_offsets, same_strings, same_text_count}
use Rattle.ti_compiled.proofs.TextPlaces.{head_of, length_head}

-- what does not fit is dropped, so the wide value spells the narrow one
narrow_bytes : (w : Format) (o : Option Content) → number_bytes w (number_value 4294967295 o) ≡ number_bytes w (number_value (absent_mark w) o)
narrow_bytes Legacy None = refl
narrow_bytes Legacy (Some content_true) = refl
narrow_bytes Legacy (Some (content_number n)) = refl
narrow_bytes Legacy (Some (content_text t)) = refl
narrow_bytes Legacy (Some content_cancelled) = refl
narrow_bytes Extended o = refl

narrow_spelled : (w : Format) (c : Contents) (n : ℕ) → number_section w (below (wide_value c) n) ≡ number_section w (below (number_in w c) n)
unfolding below
narrow_spelled w c zero = refl
narrow_spelled w c (suc n) =
    spelled-append w (below (wide_value c) n) (wide_value c n ∷ []) ∙ ap (λ t. t ++ number_section w (wide_value c n ∷ [])) (narrow_spelled w c n)
    ∙ ap (λ t. number_section w (below (number_in w c) n) ++ t) (spelled-one w (wide_value c n) ∙ narrow_bytes w (of_kind c Number n)
    ∙ sym (spelled-one w (number_in w c n)))
    ∙ sym (spelled-append w (below (number_in w c) n) (number_in w c n ∷ []))

there : (o : Option Content) → number_value 4294967295 o ≢ 4294967295 → is_there o ≡ true
there None some = absurd (some refl)
there (Some content_true) some = refl
there (Some (content_number n)) some = refl
there (Some (content_text t)) some = refl
there (Some content_cancelled) some = absurd (some refl)

absent_there : (j : ℕ) (o : Option Content) → AgreesIfSome (capability Number j) o → number_value 4294967295 o ≡ 4294967295 → is_there o ≡ false
absent_there j None a e = refl
absent_there j (Some content_true) a e = absurd cc
absent_there j (Some (content_number n)) a e = let fits = a.1 in absurd (omega arith)
absent_there j (Some (content_text t)) a e = let never = a.0 in absurd cc
absent_there j (Some content_cancelled) a e = refl

pub number_agrees : (i : ℕ) (n : Option ℕ) → IfSome n (λ n. n ≤ 2147483647) → AgreesIfSome (capability Number i) (number_content n)
number_agrees i None h = tt
number_agrees i (Some n) h = (refl, h)

lengths_differ : (n f x y t s lc lg cap n' f' t' s' : ℕ) → n' ≡ n → f' ≡ f → t' ≡ t → s' ≡ s → lc ≡ 12 + n + f + (n + f) % 2 + x + 2 * t + s
    → lg ≡ 12 + n' + f' + (n' + f') % 2 + y + 2 * t' + s' → lg ≤ cap → lc + y ≤ cap + x
lengths_differ n f x y t s lc lg cap n' f' t' s' en ef et es lc_is lg_is le =
    let same : 12 + n' + f' + (n' + f') % 2 + y + 2 * t' + s' ≡ 12 + n + f + (n + f) % 2 + y + 2 * t + s = rw (en, ef, et, es) refl in
    omega arith

module _ (b : List ℕ) (is : IsImage b) (h : Header) (has : HasSizes (names_in b) (contents_in b) h) (index : ℕ) (within : index < 39) (n : Option ℕ) where
  abbrev c : Contents
  c = contents_in b

  abbrev g : Contents
  g = with_number b index n

  pub number_put : (values : List ℕ) (v : ℕ) → values ≡ below (wide_value (contents_in b)) 39 → v ≡ number_value 4294967295 (number_content n)
      → set values index v ≡ below (wide_value (with_number b index n)) 39
  number_put values v all e =
      let here : wide_value g index ≡ v = ap (number_value 4294967295) (given_here c (capability Number index) (number_content n)) ∙ sym e in
      ap (λ t. set t index v) all ∙ set-below (wide_value c) (wide_value g) 39 index v within here
      (λ j other. ap (number_value 4294967295) (given_place c Number index (number_content n) j other))

  module _ (fits : IfSome n (λ n. n ≤ 2147483647)) (values : List ℕ) (all : values ≡ below (wide_value (with_number b index n)) 39) where
    pub has_numbers : HasNumbers (with_number b index n)
    has_numbers j lt = given_agrees c (capability Number index) (number_content n) (number_agrees index n fits) (capability Number j)
        (is.imaged.agree (capability Number j) lt)

    value_at : (j : ℕ) → j < 39 → get_or values j 0 ≡ wide_value g j
    value_at j lt = ap (λ t. get_or t j 0) all ∙ get_or-below (wide_value g) 39 j 0 lt

    pub sizes_numbered : (w : Format) (m : ℕ) → w ≡ format_of (with_number b index n) → m ≤ length values
        → ((j : ℕ) → suc j ≡ m → get_or values j 0 ≢ 4294967295)
        → ((j : ℕ) → m ≤ j → j < length values → get_or values j 0 ≡ 4294967295)
        → HasSizes (names_in b) (with_number b index n)
        (record { format = w; names = h.names; flags = h.flags; numbers = m; texts = h.texts; strings = h.strings })
    sizes_numbered w m e le last past =
        let l : length values ≡ 39 = ap (λ (t : List ℕ). length t) all ∙ length-below (wide_value g) 39 in
        let fit : m ≤ 39 = omega arith in record {
          format = e;
          names = has.names;
          flags = has.flags;
          numbers = sym (last_passing-is (λ j. is_there (of_kind g Number j)) 39 m fit
              (λ j s. let lt : j < 39 = omega arith in there (of_kind g Number j) (λ v. last j s (value_at j lt ∙ v)))
              (λ j low lt. absent_there j (of_kind g Number j) (has_numbers j lt) (sym (value_at j lt) ∙ past j low (omega arith))));
          texts = has.texts;
          strings = has.strings ∙ ap (λ (t : List ℕ). at_most_max (length t)) (sym (same_strings g c (λ i. refl)));
          flags_fit = has.flags_fit;
          numbers_fit = fit;
          texts_fit = has.texts_fit;
        }

  module _ (k : Header) (has_g : HasSizes (names_in b) (with_number b index n) k) where
    -- the two images differ in the bytes of the numbers
    pub number_room : (len room : ℕ) → len ≡ length b → length (image (names_in b) (with_number b index n)) ≤ room
        → len + width k.format * k.numbers ≤ room + width h.format * h.numbers
    number_room len room el le =
        let texts : k.texts ≡ h.texts = has_g.texts ∙ sym has.texts in
        lengths_differ h.names h.flags (width h.format * h.numbers) (width k.format * k.numbers) h.texts (length (texts_below c (written_count c Text))) len
        (length (image (names_in b) g)) room k.names k.flags k.texts (length (texts_below g (written_count g Text)))
        (has_g.names ∙ sym has.names) (has_g.flags ∙ sym has.flags) texts (ap (λ (t : List ℕ). length t) (same_strings g c (λ i. refl)))
        (el ∙ ap (λ (x : List ℕ). length x) is.whole ∙ length_sized (names_in b) c h has) (length_sized (names_in b) g k has_g) le

    same_after : after_numbers (with_number b index n) ≡ after_numbers (contents_in b)
    same_after =
        ap (λ t. number_section Legacy t ++ texts_below g (written_count g Text) ++ []) (same_offsets g c (λ i. refl) (written_count g Text)
        ∙ ap (offsets_below c) (same_text_count g c (λ i. refl)))
        ∙ ap (λ t. number_section Legacy (offsets_below c (written_count c Text)) ++ t ++ []) (same_strings g c (λ i. refl))

    all_spelled : (values : List ℕ) → values ≡ below (wide_value (with_number b index n)) 39
        → number_section k.format (take k.numbers values) ≡ number_section (format_of (with_number b index n))
        (below (number_in (format_of (with_number b index n)) (with_number b index n)) (written_count (with_number b index n) Number))
    all_spelled values all =
        ap (λ t. number_section k.format (take k.numbers t)) all ∙ ap (number_section k.format) (take-below (wide_value g) 39 k.numbers has_g.numbers_fit)
        ∙ ap (λ w. number_section w (below (wide_value g) k.numbers)) has_g.format
        ∙ ap (λ m. number_section (format_of g) (below (wide_value g) m)) has_g.numbers ∙ narrow_spelled (format_of g) g (written_count g Number)

    pub numbers_changed : (b1 b2 b3 values : List ℕ) (place size wanted fill : ℕ) → place ≡ numbers_from h → size ≡ width h.format * h.numbers
        → wanted ≡ width k.format * k.numbers
        → values ≡ below (wide_value (with_number b index n)) 39 → length (image (names_in b) (with_number b index n)) ≤ image_limit (with_number b index n)
        → Replaces b b1 place size (λ m. with_length m wanted fill)
        → Replaces b1 b2 place (width k.format * k.numbers) (λ _. number_section k.format (take k.numbers values))
        → Replaces b2 b3 0 12 (λ _. header k.format k.names k.flags k.numbers k.texts k.strings) → b3 ≡ image (names_in b) (with_number b index n)
    numbers_changed b1 b2 b3 values place size wanted fill ep es ew all small resizes puts heads =
        let names = names_in b in
        let w = format_of c in
        let p = head_of names c ++ before_numbers names c in
        let m = number_section w (below (number_in w c) (written_count c Number)) in
        let r = after_numbers c in
        let lp : length p ≡ place = length_before names c h has ∙ sym ep in
        let lm : length m ≡ size = length-spelled w (below (number_in w c) (written_count c Number))
        ∙ ap (λ x. width w * x) (length-below (number_in w c) (written_count c Number) ∙ sym has.numbers)
        ∙ ap (λ f. width f * h.numbers) (sym has.format) ∙ sym es in
        let one : b1 ≡ p ++ (with_length m wanted fill ++ r) =
        resizes p m r (is.whole ∙ number_frame names c ∙ sym (append_assoc (head_of names c) (before_numbers names c) (m ++ r))) lp lm in
        let new = number_section k.format (take k.numbers values) in
        let two : b2 ≡ p ++ (new ++ r) = puts p (with_length m wanted fill) r one lp (length-resized m wanted fill ∙ ew) in
        let three : b3 ≡ header k.format k.names k.flags k.numbers k.texts k.strings ++ (before_numbers names c ++ (new ++ r)) =
        heads [] (head_of names c) (before_numbers names c ++ (new ++ r)) (two ∙ append_assoc (head_of names c) (before_numbers names c) (new ++ r)) refl
        (length_head names c) in
        three ∙ ap (λ t. t ++ (before_numbers names c ++ (new ++ r))) (header_written names g k has_g small)
        ∙ ap (λ t. head_of names g ++ (before_numbers names c ++ (t ++ r))) (all_spelled values all)
        ∙ ap (λ t. head_of names g ++ (before_numbers names c
        ++ (number_section (format_of g) (below (number_in (format_of g) g) (written_count g Number)) ++ t))) (sym same_after)
        ∙ sym (number_frame names g)
