-- The numbers of an image: where they are, and what each means.
use Rattle.std.proofs.Common.{◌≡◌, ℕ, suc, ◌+◌, ◌*◌, ◌%◌, ◌<◌, ◌≤◌, List, [], ◌∷◌, ◌++◌, length, set, replicate, Option, Some, None, refl, sym, ap, ◌∙◌}
use Rattle.std.proofs.Common.{subst, append_assoc, arith, inl, inr}
use Rattle.std.proofs.lemmas.Bool.{cases_lt, cases_eq}
use Rattle.std.proofs.lemmas.List.{length-append, length-replicate}
use Rattle.ti_caps.specs.Tables.{capability}
use Rattle.ti_caps.specs.declared.capability.Kind.TheVariants.{Flag, Number, Text}
use Rattle.ti_layout.specs.declared.layout.Format.{Format}
use Rattle.ti_layout.specs.declared.layout.Format.TheVariants.{Legacy, Extended}
use Rattle.ti_layout.specs.declared.header.Header.{Header}
use Rattle.ti_layout.specs.Image.{image, image_in, below, even_gap, flags_below, format_of, numbers_below, number_value, of_kind, offsets_below}
use Rattle.ti_layout.specs.Image.{texts_below, written_count}
use Rattle.ti_layout.specs.Layout.{absent_mark, first_negative, number_section, width}
use Rattle.ti_layout.specs.Laws.{without_cancel}
use Rattle.ti_layout.specs.Reading.{number_at}
use Rattle.ti_layout.specs.Sizes.{HasSizes}
use Rattle.ti_layout.specs.Values.{Content, content_true, content_number, content_text, content_cancelled, Contents, AgreesIfSome}
use Rattle.ti_layout.proofs.Below.{length-below, below-none, below-filled, below-same}
use Rattle.ti_layout.proofs.ImageReading.{number-plain}
use Rattle.ti_compiled.specs.inside.Changes.{wide_value}
use Rattle.ti_compiled.specs.inside.Image.{names_in, contents_in, IsImage}
use Rattle.ti_compiled.proofs.FlagPlaces.{length_sized}
use Rattle.ti_compiled.proofs.Given.{nothing_past}
use Rattle.ti_compiled.proofs.Moving.{mixed, mixed_low, mixed_high, mixed_more}
use Rattle.ti_compiled.proofs.Numbering.{place-get, place_under}
use Rattle.ti_compiled.proofs.Resizing.{set-below}
use Rattle.ti_compiled.proofs.TextPlaces.{head_of, length_head}

void_number : (void : ℕ) (o : Option Content) → without_cancel o ≡ None → number_value void o ≡ void
void_number void None e = refl
void_number void (Some content_true) e = refl
void_number void (Some (content_number n)) e = absurd cc
void_number void (Some (content_text t)) e = refl
void_number void (Some content_cancelled) e = refl

-- what a number in the bytes says
pub record NumberFacts (w : Format) (o : Option Content) : Type 0 where
  pub fits : number_value (absent_mark w) o ≤ absent_mark w
  pub plain : number_value (absent_mark w) o < first_negative w → number_value 4294967295 o ≡ number_value (absent_mark w) o
  pub void : first_negative w ≤ number_value (absent_mark w) o → number_value 4294967295 o ≡ 4294967295

least : (w : Format) → first_negative w ≤ absent_mark w
least Legacy = omega arith
least Extended = omega arith

number_facts : (w : Format) (o : Option Content) → ((n : ℕ) → o ≡ Some (content_number n) → n < first_negative w) → NumberFacts w o
number_facts w None small = let l = least w in record { fits = omega arith; plain = λ h. absurd (omega arith); void = λ h. refl }
number_facts w (Some content_true) small = let l = least w in record { fits = omega arith; plain = λ h. absurd (omega arith); void = λ h. refl }
number_facts w (Some (content_number n)) small =
    let l = least w in let s = small n refl in record { fits = omega arith; plain = λ h. refl; void = λ h. absurd (omega arith) }
number_facts w (Some (content_text t)) small = let l = least w in record { fits = omega arith; plain = λ h. absurd (omega arith); void = λ h. refl }
number_facts w (Some content_cancelled) small = let l = least w in record { fits = omega arith; plain = λ h. absurd (omega arith); void = λ h. refl }

nine : (h n z f g m o s r : List ℕ) → h ++ n ++ z ++ f ++ g ++ m ++ o ++ s ++ r ≡ h ++ ((n ++ z ++ f ++ g) ++ (m ++ (o ++ s ++ r)))
nine h n z f g m o s r = simp append_assoc

length-four : (n z f g : List ℕ) → length (n ++ z ++ f ++ g) ≡ length n + length z + length f + length g
length-four n z f g = simp length-append

abbrev pub before_numbers : List ℕ → Contents → List ℕ
before_numbers names c = names ++ 0 ∷ [] ++ flags_below c (written_count c Flag) ++ even_gap names (written_count c Flag)

abbrev pub after_numbers : Contents → List ℕ
after_numbers c = number_section Legacy (offsets_below c (written_count c Text)) ++ texts_below c (written_count c Text) ++ []

-- the number of a place, in a format
abbrev pub number_in : Format → Contents → ℕ → ℕ
number_in w c j = number_value (absent_mark w) (of_kind c Number j)

pub number_frame : (names : List ℕ) (c : Contents) → image names c ≡ head_of names c
    ++ (before_numbers names c ++ (number_section (format_of c) (below (number_in (format_of c) c) (written_count c Number)) ++ after_numbers c))
unfolding image image_in
number_frame names c =
    nine (head_of names c) names (0 ∷ []) (flags_below c (written_count c Flag)) (even_gap names (written_count c Flag))
    (number_section (format_of c) (numbers_below (format_of c) c (written_count c Number))) (number_section Legacy (offsets_below c (written_count c Text)))
    (texts_below c (written_count c Text)) []

abbrev pub numbers_from : Header → ℕ
numbers_from h = 12 + h.names + h.flags + (h.names + h.flags) % 2

pub length_before : (names : List ℕ) (c : Contents) (h : Header) → HasSizes names c h → length (head_of names c ++ before_numbers names c) ≡ numbers_from h
length_before names c h has =
    let F = written_count c Flag in
    let l = length-four names (0 ∷ []) (flags_below c F) (even_gap names F) in
    let f : length (flags_below c F) ≡ F = length-below _ F in
    let g : length (even_gap names F) ≡ (suc (length names) + F) % 2 = length-replicate ((suc (length names) + F) % 2) 0 in
    let a = length-append (head_of names c) (before_numbers names c) in
    let b = length_head names c in
    rw (has.names, has.flags) (omega arith)

module _ (b : List ℕ) (is : IsImage b) (h : Header) (has : HasSizes (names_in b) (contents_in b) h) where
  abbrev c : Contents
  c = contents_in b

  number_small : (j : ℕ) → j < h.numbers → (n : ℕ) → of_kind (contents_in b) Number j ≡ Some (content_number n) → n < first_negative (format_of (contents_in b))
  number_small j lt n e =
      let N = has.numbers in
      let fit = has.numbers_fit in
      let under : j < 39 = omega arith in
      let agrees = subst (AgreesIfSome (capability Number j)) e (is.imaged.agree (capability Number j) under) in
      number-plain (contents_in b) j n under e agrees.1

  pub number_tells : (j : ℕ) → j < h.numbers → NumberFacts (format_of (contents_in b)) (of_kind (contents_in b) Number j)
  number_tells j lt = number_facts (format_of c) (of_kind c Number j) (number_small j lt)

  pub numbers_end : numbers_from h + width h.format * h.numbers ≤ length b
  numbers_end = let l = ap (λ (x : List ℕ). length x) is.whole ∙ length_sized (names_in b) c h has in omega arith

  number_read : (place size j n : ℕ) → place ≡ numbers_from h → size ≡ width h.format → j < h.numbers → n ≡ number_at h.format (place + size * j) b
      → n ≡ number_in (format_of (contents_in b)) (contents_in b) j
  number_read place size j n ep es lt value =
      let N = has.numbers in
      let w = format_of c in
      value ∙ ap (λ p. number_at h.format (p + size * j) b) ep ∙ ap (λ x. number_at h.format (numbers_from h + x * j) b) es
      ∙ ap (λ f. number_at f (numbers_from h + width f * j) b) has.format
      ∙ place-get w (head_of (names_in b) c ++ before_numbers (names_in b) c) (after_numbers c) (numbers_from h) (length_before (names_in b) c h has) b
      (number_in w c) (written_count c Number) j
      (number_tells j lt).fits (omega arith)
      (is.whole ∙ number_frame (names_in b) c
      ∙ sym (append_assoc (head_of (names_in b) c) (before_numbers (names_in b) c)
      (number_section w (below (number_in w c) (written_count c Number)) ++ after_numbers c)))

  abbrev pub ReadUpTo : List ℕ → ℕ → Type 0
  ReadUpTo values at = values ≡ below (mixed (λ _. 4294967295) (wide_value (contents_in b)) at) 39

  pub read_start : ReadUpTo (replicate 39 4294967295) 0
  read_start = sym (below-filled (mixed (λ _. 4294967295) (wide_value c) 0) 4294967295 0 39 (λ j low high. mixed_high (λ _. 4294967295) (wide_value c) 0 j low)
      ∙ ap (λ t. t ++ replicate 39 4294967295) (below-none (mixed (λ _. 4294967295) (wide_value c) 0)))

  pub read_end : (values : List ℕ) (at : ℕ) → h.numbers ≤ at → ReadUpTo values at → values ≡ below (wide_value (contents_in b)) 39
  read_end values at le so_far =
      let N = has.numbers in
      so_far ∙ below-same (mixed (λ _. 4294967295) (wide_value c) at) (wide_value c) 39 (λ j lt. elim (cases_lt j at) [
        | inl low ↦ mixed_low (λ _. 4294967295) (wide_value c) at j low
        | inr high ↦ mixed_high (λ _. 4294967295) (wide_value c) at j high
            ∙ sym (void_number 4294967295 (of_kind c Number j) (nothing_past c is.imaged.past Number j (omega arith)))
      ])

  module _ (values : List ℕ) (place size at n : ℕ) (ep : place ≡ numbers_from h) (es : size ≡ width h.format) (lt : at < h.numbers)
      (value : n ≡ number_at h.format (place + size * at) b) (so_far : ReadUpTo values at) where
    found : n ≡ number_in (format_of (contents_in b)) (contents_in b) at
    found = number_read place size at n ep es lt value

    same_negative : first_negative h.format ≡ first_negative (format_of (contents_in b))
    same_negative = ap first_negative has.format

    next : mixed (λ _. 4294967295) (wide_value (contents_in b)) (at + 1) at ≡ wide_value (contents_in b) at
    next = mixed_low (λ _. 4294967295) (wide_value c) (at + 1) at (omega arith)

    pub read_plain : n < first_negative h.format → ReadUpTo (set values at n) (at + 1)
    read_plain small =
        let f = found in
        let e = same_negative in
        let fit = has.numbers_fit in
        let under : number_in (format_of c) c at < first_negative (format_of c) = omega arith in
        ap (λ t. set t at n) so_far
        ∙ set-below (mixed (λ _. 4294967295) (wide_value c) at) (mixed (λ _. 4294967295) (wide_value c) (at + 1)) 39 at n (omega arith)
        (next ∙ (number_tells at lt).plain under ∙ sym found)
        (λ j other. mixed_more (λ _. 4294967295) (wide_value c) at j other)

    pub read_void : first_negative h.format ≤ n → ReadUpTo values (at + 1)
    read_void large =
        let f = found in
        let e = same_negative in
        let over : first_negative (format_of c) ≤ number_in (format_of c) c at = omega arith in
        let m = mixed (λ _. 4294967295) (wide_value c) in
        let step : m at at ≡ m (at + 1) at = mixed_high (λ _. 4294967295) (wide_value c) at at (omega arith) ∙ sym (next ∙ (number_tells at lt).void over) in
        so_far ∙ below-same (m at) (m (at + 1)) 39 (λ j l. elim (cases_eq j at) [
          | inl same ↦ ap (m at) same ∙ step ∙ ap (m (at + 1)) (sym same)
          | inr other ↦ sym (mixed_more (λ _. 4294967295) (wide_value c) at j other)
        ])

pub width_under : (b : List ℕ) (is : IsImage b) (h : Header) → HasSizes (names_in b) (contents_in b) h → (place size j : ℕ) → place ≡ numbers_from h
    → size ≡ width h.format → j < h.numbers → place + size * j + width h.format ≤ length b
width_under b is h has place size j ep es lt =
    let e = numbers_end b is h has in
    let u = place_under h.format j h.numbers lt in
    rw (ep, es) (omega arith)
