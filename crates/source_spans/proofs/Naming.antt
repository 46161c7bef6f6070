-- The names in a names field.
use Rattle.std.proofs.Common.{◌≡◌, ℕ, suc, zero, ◌+◌, ◌-◌, ◌<◌, ◌≤◌, ◌==◌, Contains, false, true, List, [], ◌∷◌, ◌++◌, drop, get_or, inl, inr, length, map}
use Rattle.std.proofs.Common.{take, refl, sym, ap, subst, ◌∙◌, arith}
use Rattle.std.specs.List.{join_with_byte, slice_range}
use Rattle.std.proofs.lemmas.Bool.{cases_Bool, eq-eqb, eqb-true, false≢true}
use Rattle.std.proofs.lemmas.List.{append-nil, append_assoc, drop_more}
use Rattle.std.proofs.lemmas.Simd.{map-map}
use Rattle.std.proofs.lemmas.List.Elements.{All-cons, All-head, All-nil, All-tail}
use Rattle.ti_source.specs.Folding.{PlacedByte}
use Rattle.ti_source.specs.Header.{PartsOf}
use Rattle.ti_source.specs.Items.{bytes}
use Rattle.source_spans.specs.Parts.{NamesAreComputed, names_of, part_of, text_of, with_first}
use Rattle.source_spans.specs.declared.parts.Part.{Part}
use Rattle.source_spans.proofs.Parting.{longer, more_parts, none_of}

-- ---- a byte before a field

plain_apart : (x : ℕ) (name : List ℕ) → (x == 124) ≡ false → (Contains name 124 → ⊥) → Contains (x ∷ name) 124 → ⊥
plain_apart x name plain none (zero, within, e) = false≢true (sym plain ∙ eq-eqb x 124 e)
plain_apart x name plain none (suc k, within, e) = none (k, omega (arith, within), e)

plain_whole : (x : ℕ) (name : List ℕ) (names : List (List ℕ)) → join_with_byte 124 ((x ∷ name) ∷ names) ≡ x ∷ join_with_byte 124 (name ∷ names)
plain_whole x name [] = refl
plain_whole x name (other ∷ names) = refl

plain_before : (x : ℕ) (field name : List ℕ) (names : List (List ℕ)) → (x == 124) ≡ false → PartsOf field (name ∷ names)
    → PartsOf (x ∷ field) ((x ∷ name) ∷ names)
plain_before x field name names plain p = record {
  whole = ap (λ (t : List ℕ). x ∷ t) p.whole ∙ sym (plain_whole x name names);
  some = λ e. cc;
  apart = All-cons (λ part. Contains part 124 → ⊥) (x ∷ name) names (plain_apart x name plain (All-head (λ part. Contains part 124 → ⊥) name names p.apart))
      (All-tail (λ part. Contains part 124 → ⊥) name names p.apart);
}

none_in : Contains {X = ℕ} [] 124 → ⊥
none_in c = omega (arith, c.1)

bar_before : (field name : List ℕ) (names : List (List ℕ)) → PartsOf field (name ∷ names) → PartsOf (124 ∷ field) ([] ∷ name ∷ names)
bar_before field name names p = record {
  whole = ap (λ (t : List ℕ). 124 ∷ t) p.whole;
  some = λ e. cc;
  apart = All-cons (λ part. Contains part 124 → ⊥) [] (name ∷ names) none_in p.apart;
}

no_field : PartsOf [] ([] ∷ [])
no_field = record { whole = refl; some = λ e. cc; apart = All-cons (λ part. Contains part 124 → ⊥) [] [] none_in (All-nil (λ part. Contains part 124 → ⊥)) }

-- ---- the names that are computed are the parts

first_more : (x : PlacedByte) (field : List ℕ) (names : List (List PlacedByte)) → (x.0 == 124) ≡ false → PartsOf field (map bytes names)
    → PartsOf (x.0 ∷ field) (map bytes (with_first x names))
first_more x field [] plain p = absurd (p.some refl)
first_more x field (name ∷ names) plain p = plain_before x.0 field (bytes name) (map bytes names) plain p

bar_more : (x : PlacedByte) (field : List ℕ) (names : List (List PlacedByte)) → (x.0 == 124) ≡ true → PartsOf field (map bytes names)
    → PartsOf (x.0 ∷ field) ([] ∷ map bytes names)
bar_more x field [] bar p = absurd (p.some refl)
bar_more x field (name ∷ names) bar p =
    subst (λ (b : ℕ). PartsOf (b ∷ field) ([] ∷ bytes name ∷ map bytes names)) (sym (eqb-true x.0 124 bar)) (bar_before field (bytes name) (map bytes names) p)

pub names_computed : NamesAreComputed
names_computed [] = no_field
names_computed (x ∷ xs) =
    elim (cases_Bool (x.0 == 124)) [
      | inl bar ↦ rw bar (bar_more x (bytes xs) (names_of xs) bar (names_computed xs))
      | inr plain ↦ rw plain (first_more x (bytes xs) (names_of xs) plain (names_computed xs))
    ]

-- the parts of a text that are its names are those of the field
pub parts_named : (text : List PlacedByte) (len : ℕ) (parts : List Part) → map (part_of text) parts ≡ names_of (take len text)
    → PartsOf (bytes (take len text)) (map (text_of text) parts)
parts_named text len parts e =
    subst (λ (names : List (List ℕ)). PartsOf (bytes (take len text)) names) (ap (map bytes) (sym e) ∙ map-map bytes (part_of text) parts)
    (names_computed (take len text))

-- ---- all names

-- the names so far, if the rest of the field has these
abbrev pub NamesTo : List PlacedByte → ℕ → List Part → ℕ → ℕ → Type 0
NamesTo text len parts start at =
    (name : List PlacedByte) (names : List (List PlacedByte)) → names_of (slice_range text at len) ≡ name ∷ names
    → map (part_of text) parts ++ (slice_range text start at ++ name) ∷ names ≡ names_of (take len text)

pub names_start : (text : List PlacedByte) (len : ℕ) → NamesTo text len [] 0 0
names_start text len name names e =
    let size : len - 0 ≡ len = omega arith in
    sym e ∙ ap (λ (n : ℕ). names_of (take n text)) size

next_byte : (text : List PlacedByte) (len at : ℕ) (d : PlacedByte) → at < len → len ≤ length text
    → slice_range text at len ≡ get_or text at d ∷ slice_range text (at + 1) len
next_byte text len at d less within =
    let size : len - at ≡ suc (len - (at + 1)) = omega (arith, less) in
    ap (λ (n : ℕ). take n (drop at text)) size ∙ ap (λ (t : List PlacedByte). take (suc (len - (at + 1))) t) (drop_more text at d (omega (arith, less, within)))

one_longer : (text : List PlacedByte) (start at : ℕ) (d : PlacedByte) (name : List PlacedByte) → start ≤ at → at < length text
    → slice_range text start at ++ get_or text at d ∷ name ≡ slice_range text start (at + 1) ++ name
one_longer text start at d name order within =
    let x = get_or text at d in
    let one : take 1 (drop at text) ≡ x ∷ [] = ap (take 1) (drop_more text at d within) in
    let more = longer text start at 1 order ∙ ap (λ (t : List PlacedByte). slice_range text start at ++ t) one in
    sym (append_assoc (slice_range text start at) (x ∷ []) name) ∙ ap (λ (t : List PlacedByte). t ++ name) (sym more)

names_plain : (x : PlacedByte) (xs : List PlacedByte) → (x.0 == 124) ≡ false → names_of (x ∷ xs) ≡ with_first x (names_of xs)
names_plain x xs plain = rw plain

names_bar : (x : PlacedByte) (xs : List PlacedByte) → (x.0 == 124) ≡ true → names_of (x ∷ xs) ≡ [] ∷ names_of xs
names_bar x xs bar = rw bar

pub names_go_on : (text : List PlacedByte) (len : ℕ) (parts : List Part) (start at : ℕ) (d : PlacedByte) → start ≤ at → at < len → len ≤ length text
    → ((get_or text at d).0 == 124) ≡ false
    → NamesTo text len parts start at → NamesTo text len parts start (at + 1)
names_go_on text len parts start at d order less within plain so name names e =
    let x = get_or text at d in
    let here = ap names_of (next_byte text len at d less within) ∙ names_plain x (slice_range text (at + 1) len) plain ∙ ap (with_first x) e in
    ap (λ (t : List PlacedByte). map (part_of text) parts ++ t ∷ names) (sym (one_longer text start at d name order (omega (arith, less, within))))
    ∙ so (x ∷ name) names here

pub names_end : (text : List PlacedByte) (len : ℕ) (parts : List Part) (start at : ℕ) (d : PlacedByte) → at < len → len ≤ length text
    → (get_or text at d).0 ≡ 124
    → NamesTo text len parts start at → NamesTo text len (parts ++ record { start = start; end = at } ∷ []) (at + 1) (at + 1)
names_end text len parts start at d less within bar so name names e =
    let x = get_or text at d in
    let part : Part = record { start = start; end = at } in
    let here = ap names_of (next_byte text len at d less within) ∙ names_bar x (slice_range text (at + 1) len) (eq-eqb x.0 124 bar)
    ∙ ap (λ (t : List (List PlacedByte)). [] ∷ t) e in
    ap (λ (t : List PlacedByte). map (part_of text) (parts ++ part ∷ []) ++ (t ++ name) ∷ names) (none_of text (at + 1))
    ∙ sym (more_parts text parts part (name ∷ names)) ∙ so [] (name ∷ names) here

pub names_last : (text : List PlacedByte) (len : ℕ) (parts : List Part) (start at : ℕ) → at ≡ len → NamesTo text len parts start at
    → map (part_of text) (parts ++ record { start = start; end = len } ∷ []) ≡ names_of (take len text)
names_last text len parts start at all so =
    let part : Part = record { start = start; end = len } in
    let none : slice_range text at len ≡ [] = ap (λ (n : ℕ). slice_range text n len) all ∙ none_of text len in
    sym (append-nil (map (part_of text) (parts ++ part ∷ []))) ∙ sym (more_parts text parts part [])
    ∙ ap (λ (n : ℕ). map (part_of text) parts ++ (slice_range text start n ++ []) ∷ []) (sym all) ∙ so [] [] (ap names_of none)
