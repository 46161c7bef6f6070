-- The strings of an image: their offsets, and where they are.
use Rattle.std.proofs.Common.{◌≡◌, ◌≢◌, ℕ, suc, ◌+◌, ◌-◌, ◌*◌, ◌%◌, ◌<◌, ◌≤◌, true, false, List, [], ◌∷◌, ◌++◌, length, Option, Some, None, refl, sym, ap}
use Rattle.std.proofs.Common.{◌∙◌, subst, append_assoc, arith, inl, inr}
use Rattle.std.proofs.lemmas.Bool.{cases_lt}
use Rattle.std.proofs.lemmas.List.{length-append, length-replicate}
use Rattle.ti_caps.specs.Tables.{capability}
use Rattle.ti_caps.specs.declared.capability.Kind.TheVariants.{Flag, Number, Text}
use Rattle.ti_layout.specs.declared.layout.Format.TheVariants.{Legacy}
use Rattle.ti_layout.specs.declared.header.Header.{Header}
use Rattle.ti_layout.specs.Image.{image, image_in, below, even_gap, flags_below, format_of, is_there, numbers_below, of_kind, offset_value, offsets_below}
use Rattle.ti_layout.specs.Image.{text_piece, texts_below, written_count}
use Rattle.ti_layout.specs.Layout.{header, number_section, width}
use Rattle.ti_layout.specs.Laws.{without_cancel}
use Rattle.ti_layout.specs.Reading.{word_at}
use Rattle.ti_layout.specs.Sizes.{HasSizes}
use Rattle.ti_layout.specs.Values.{Content, content_true, content_number, content_text, content_cancelled, Contents, AgreesIfSome}
use Rattle.ti_layout.proofs.Below.{length-below}
use Rattle.ti_layout.proofs.Parts.{length-header}
use Rattle.ti_layout.proofs.Sizes.{strings_small}
use Rattle.ti_layout.proofs.Spelled.{length-spelled}
use Rattle.ti_layout.proofs.Texts.{texts-skipped, length-texts-le}
use Rattle.ti_compiled.specs.inside.Image.{names_in, contents_in, IsImaged, IsImage}
use Rattle.ti_compiled.proofs.FlagPlaces.{length_sized}
use Rattle.ti_compiled.proofs.Given.{HoldsNoOther, nothing_past}
use Rattle.ti_compiled.proofs.Numbering.{place-get}

-- the offset of a place
abbrev pub offset_of : Contents → ℕ → ℕ
offset_of c j = offset_value (length (texts_below c j)) (of_kind c Text j)

void_piece : (o : Option Content) → without_cancel o ≡ None → text_piece o ≡ []
void_piece None e = refl
void_piece (Some content_true) e = absurd cc
void_piece (Some (content_number n)) e = absurd cc
void_piece (Some (content_text t)) e = absurd cc
void_piece (Some content_cancelled) e = refl

void_offset : (n : ℕ) (o : Option Content) → without_cancel o ≡ None → offset_value n o ≡ 65535
void_offset n None e = refl
void_offset n (Some content_true) e = absurd cc
void_offset n (Some (content_number m)) e = absurd cc
void_offset n (Some (content_text t)) e = absurd cc
void_offset n (Some content_cancelled) e = refl

-- what an offset says
pub record OffsetFacts (n : ℕ) (o : Option Content) : Type 0 where
  pub fits : offset_value n o ≤ 65535
  pub there : offset_value n o ≢ 65535 → (is_there o ≡ true) × (offset_value n o ≡ n)
  pub absent : offset_value n o ≡ 65535 → (is_there o ≡ false) × (text_piece o ≡ [])

offset_facts : (j n : ℕ) (o : Option Content) → n < 65535 → AgreesIfSome (capability Text j) o → OffsetFacts n o
offset_facts j n None lt a = record { fits = omega arith; there = λ h. absurd (h refl); absent = λ h. (refl, refl) }
offset_facts j n (Some content_true) lt a = absurd cc
offset_facts j n (Some (content_number m)) lt a = let never = a.0 in absurd cc
offset_facts j n (Some (content_text t)) lt a = record { fits = omega arith; there = λ h. (refl, refl); absent = λ h. absurd (omega arith) }
offset_facts j n (Some content_cancelled) lt a = record { fits = omega arith; there = λ h. absurd (h refl); absent = λ h. (refl, refl) }

nine : (h n z f g m o s r : List ℕ) → h ++ n ++ z ++ f ++ g ++ m ++ o ++ s ++ r ≡ h ++ ((n ++ z ++ f ++ g ++ m) ++ (o ++ (s ++ r)))
nine h n z f g m o s r = simp append_assoc

length-five : (n z f g m : List ℕ) → length (n ++ z ++ f ++ g ++ m) ≡ length n + length z + length f + length g + length m
length-five n z f g m = simp length-append

-- all strings are written
pub texts_end : (c : Contents) → HoldsNoOther c → (n : ℕ) → written_count c Text ≤ n → texts_below c n ≡ texts_below c (written_count c Text)
texts_end c past n le =
    let T = written_count c Text in
    let e : T + (n - T) ≡ n = omega arith in
    ap (texts_below c) (sym e) ∙ texts-skipped c T (n - T) (λ j low high. void_piece (c (capability Text j)) (nothing_past c past Text j low))

module _ (names : List ℕ) (c : Contents) (is : IsImaged names c) where
  pub table_small : length (texts_below c (written_count c Text)) < 32768
  table_small = strings_small names c is.within

  pub texts_past : (n : ℕ) → written_count c Text ≤ n → texts_below c n ≡ texts_below c (written_count c Text)
  texts_past n le = texts_end c is.past n le

  pub texts_small : (j : ℕ) → length (texts_below c j) < 32768
  texts_small j =
      let s = table_small in
      elim (cases_lt j (written_count c Text)) [
        | inl under ↦ let l = length-texts-le c (written_count c Text) j (omega arith) in omega arith
        | inr over ↦ let l = ap (λ (t : List ℕ). length t) (texts_past j over) in omega arith
      ]

  pub agrees_text : (j : ℕ) → AgreesIfSome (capability Text j) (c (capability Text j))
  agrees_text j = elim (cases_lt j 414) [
    | inl under ↦ is.agree (capability Text j) under
    | inr over ↦ subst (AgreesIfSome (capability Text j)) (sym (is.past Text j over)) tt
  ]

  pub offset_tells : (j : ℕ) → OffsetFacts (length (texts_below c j)) (of_kind c Text j)
  offset_tells j = let s = texts_small j in offset_facts j (length (texts_below c j)) (of_kind c Text j) (omega arith) (agrees_text j)

  pub offset_past : (j : ℕ) → written_count c Text ≤ j → offset_of c j ≡ 65535
  offset_past j le = void_offset (length (texts_below c j)) (c (capability Text j)) (nothing_past c is.past Text j le)

-- what is before the offsets, after the header
abbrev pub middle : List ℕ → Contents → List ℕ
middle names c =
    names ++ 0 ∷ [] ++ flags_below c (written_count c Flag) ++ even_gap names (written_count c Flag)
    ++ number_section (format_of c) (numbers_below (format_of c) c (written_count c Number))

abbrev pub head_of : List ℕ → Contents → List ℕ
head_of names c =
    header (format_of c) (suc (length names)) (length (flags_below c (written_count c Flag)))
    (length (numbers_below (format_of c) c (written_count c Number))) (length (offsets_below c (written_count c Text)))
    (length (texts_below c (written_count c Text)))

pub text_frame : (names : List ℕ) (c : Contents) → image names c ≡ head_of names c
    ++ (middle names c ++ (number_section Legacy (offsets_below c (written_count c Text)) ++ (texts_below c (written_count c Text) ++ [])))
unfolding image image_in
text_frame names c =
    nine (head_of names c) names (0 ∷ []) (flags_below c (written_count c Flag)) (even_gap names (written_count c Flag))
    (number_section (format_of c) (numbers_below (format_of c) c (written_count c Number))) (number_section Legacy (offsets_below c (written_count c Text)))
    (texts_below c (written_count c Text)) []

pub length_head : (names : List ℕ) (c : Contents) → length (head_of names c) ≡ 12
length_head names c = length-header (format_of c) (suc (length names)) (length (flags_below c (written_count c Flag)))
    (length (numbers_below (format_of c) c (written_count c Number))) (length (offsets_below c (written_count c Text)))
    (length (texts_below c (written_count c Text)))

pub length_middle : (names : List ℕ) (c : Contents)
    → length (middle names c) ≡ suc (length names) + written_count c Flag + (suc (length names) + written_count c Flag) % 2 + width
    (format_of c) * written_count c Number
length_middle names c =
    let F = written_count c Flag in
    let N = written_count c Number in
    let l = length-five names (0 ∷ []) (flags_below c F) (even_gap names F) (number_section (format_of c) (numbers_below (format_of c) c N)) in
    let f : length (flags_below c F) ≡ F = length-below _ F in
    let g : length (even_gap names F) ≡ (suc (length names) + F) % 2 = length-replicate ((suc (length names) + F) % 2) 0 in
    let m : length (number_section (format_of c) (numbers_below (format_of c) c N)) ≡ width (format_of c) * N =
    length-spelled (format_of c) (numbers_below (format_of c) c N) ∙ ap (λ k. width (format_of c) * k) (length-below _ N) in
    omega arith

-- where the offsets begin, by a header
abbrev pub offsets_from : Header → ℕ
offsets_from h = 12 + h.names + h.flags + (h.names + h.flags) % 2 + width h.format * h.numbers

pub length_front : (names : List ℕ) (c : Contents) (h : Header) → HasSizes names c h → length (head_of names c ++ middle names c) ≡ offsets_from h
length_front names c h has =
    let a = length-append (head_of names c) (middle names c) in
    let b = length_head names c in
    let m = length_middle names c in
    rw (has.format, has.names, has.flags, has.numbers) (omega arith)

pub text_parts : (b names : List ℕ) (c : Contents) → b ≡ image names c
    → b ≡ (head_of names c ++ middle names c) ++ (number_section Legacy (below (offset_of c) (written_count c Text))
    ++ (texts_below c (written_count c Text) ++ []))
text_parts b names c whole = whole ∙ text_frame names c
    ∙ sym (append_assoc (head_of names c) (middle names c) (number_section Legacy (offsets_below c (written_count c Text))
    ++ (texts_below c (written_count c Text) ++ [])))

-- the offset in the bytes
pub offset_read : (b : List ℕ) (is : IsImage b) (h : Header) → HasSizes (names_in b) (contents_in b) h → (j : ℕ) → j < h.texts
    → word_at (offsets_from h + 2 * j) b ≡ offset_of (contents_in b) j
offset_read b is h has j lt =
    let c = contents_in b in
    let T = has.texts in
    place-get Legacy (head_of (names_in b) c ++ middle (names_in b) c) (texts_below c (written_count c Text) ++ []) (offsets_from h)
    (length_front (names_in b) c h has) b (offset_of c) (written_count c Text) j
    (offset_tells (names_in b) c is.imaged j).fits (omega arith) (text_parts b (names_in b) c is.whole)

pub texts_within : (b : List ℕ) (is : IsImage b) (h : Header) → HasSizes (names_in b) (contents_in b) h
    → offsets_from h + 2 * h.texts + length (texts_below (contents_in b) (written_count (contents_in b) Text)) ≡ length b
texts_within b is h has = sym (ap (λ (x : List ℕ). length x) is.whole ∙ length_sized (names_in b) (contents_in b) h has)

pub strings_exact : (b : List ℕ) (is : IsImage b) (h : Header) → HasSizes (names_in b) (contents_in b) h
    → h.strings ≡ length (texts_below (contents_in b) (written_count (contents_in b) Text))
strings_exact b is h has = let s = table_small (names_in b) (contents_in b) is.imaged in let e = has.strings in omega arith

pub offset_found : (b : List ℕ) (is : IsImage b) (h : Header) → HasSizes (names_in b) (contents_in b) h → (place j offset : ℕ) → place ≡ offsets_from h
    → j < h.texts → offset ≡ word_at (place + 2 * j) b → offset ≡ offset_of (contents_in b) j
offset_found b is h has place j offset e lt value = value ∙ ap (λ p. word_at (p + 2 * j) b) e ∙ offset_read b is h has j lt
