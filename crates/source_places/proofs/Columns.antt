-- Widths are lengths in UTF-16, and the offset of a column is the last before which there is no more.
use Rattle.std.proofs.Common.{◌≡◌, ℕ, suc, zero, ◌+◌, ◌-◌, ◌/◌, ◌%◌, ◌<◌, ◌≤◌, true, false, List, [], ◌∷◌, ◌++◌, length, take, refl, sym, ap, subst, ◌∙◌}
use Rattle.std.proofs.Common.{inl, inr, arith}
use Rattle.std.specs.Char.Escape.{encode_utf16}
use Rattle.std.specs.List.{flat_map}
use Rattle.std.specs.Prelude.{nat_lt}
use Rattle.std.specs.Str.{chars}
use Rattle.std.proofs.lemmas.Bool.{cases_Bool, cases_lt, le-ltb, lt-ltb, ltb-true, ltb-false}
use Rattle.std.proofs.lemmas.List.{length-append}
use Rattle.std.proofs.lemmas.Str.{encodes-chars}
use lib.Utf8.{encode, encodes}
use Rattle.source_places.specs.Columns.{ColumnsAreFound, ColumnsHaveOneOffset, IsColumnOffset, WidthsAreUtf16}
use Rattle.source_places.specs.LineTexts.{until_end, width}
use Rattle.source_places.specs.Position.{column_offset, ends_line, units}

-- ---- widths

units_one : (byte : ℕ) → byte < 128 → units byte ≡ 1
units_one byte low = let t : nat_lt byte 128 ≡ true = lt-ltb byte 128 low in rw t

units_within : (byte : ℕ) → 128 ≤ byte → byte < 192 → units byte ≡ 0
units_within byte high low =
    let f : nat_lt byte 128 ≡ false = le-ltb byte 128 high in
    let t : nat_lt byte 192 ≡ true = lt-ltb byte 192 low in
    rw (f, t)

units_lead : (byte : ℕ) → 192 ≤ byte → byte < 240 → units byte ≡ 1
units_lead byte high low =
    let f : nat_lt byte 128 ≡ false = le-ltb byte 128 (omega (arith, high)) in
    let g : nat_lt byte 192 ≡ false = le-ltb byte 192 high in
    let t : nat_lt byte 240 ≡ true = lt-ltb byte 240 low in
    rw (f, g, t)

units_pair : (byte : ℕ) → 240 ≤ byte → units byte ≡ 2
units_pair byte high =
    let f : nat_lt byte 128 ≡ false = le-ltb byte 128 (omega (arith, high)) in
    let g : nat_lt byte 192 ≡ false = le-ltb byte 192 (omega (arith, high)) in
    let h : nat_lt byte 240 ≡ false = le-ltb byte 240 high in
    rw (f, g, h)

units_next : (bits : ℕ) → units (128 + bits % 64) ≡ 0
units_next bits = units_within (128 + bits % 64) (omega arith) (omega arith)

unit_short : (c : ℕ) → c < 65536 → length (encode_utf16 c) ≡ 1
unit_short c low = let t : nat_lt c 65536 ≡ true = lt-ltb c 65536 low in rw t

unit_pair : (c : ℕ) → 65536 ≤ c → length (encode_utf16 c) ≡ 2
unit_pair c high = let f : nat_lt c 65536 ≡ false = le-ltb c 65536 high in rw f

-- the UTF-8 of a character, by its length
encode_one : (c : ℕ) → c < 128 → encode c ≡ c ∷ []
unfolding encode
encode_one c low = let t : nat_lt c 128 ≡ true = lt-ltb c 128 low in rw t

encode_two : (c : ℕ) → 128 ≤ c → c < 2048 → encode c ≡ (192 + c / 64) ∷ (128 + c % 64) ∷ []
unfolding encode
encode_two c high low =
    let f : nat_lt c 128 ≡ false = le-ltb c 128 high in
    let t : nat_lt c 2048 ≡ true = lt-ltb c 2048 low in
    rw (f, t)

encode_three : (c : ℕ) → 2048 ≤ c → c < 65536 → encode c ≡ (224 + c / 4096) ∷ (128 + c / 64 % 64) ∷ (128 + c % 64) ∷ []
unfolding encode
encode_three c high low =
    let f : nat_lt c 128 ≡ false = le-ltb c 128 (omega (arith, high)) in
    let g : nat_lt c 2048 ≡ false = le-ltb c 2048 high in
    let t : nat_lt c 65536 ≡ true = lt-ltb c 65536 low in
    rw (f, g, t)

encode_four : (c : ℕ) → 65536 ≤ c → encode c ≡ (240 + c / 262144) ∷ (128 + c / 4096 % 64) ∷ (128 + c / 64 % 64) ∷ (128 + c % 64) ∷ []
unfolding encode
encode_four c high =
    let f : nat_lt c 128 ≡ false = le-ltb c 128 (omega (arith, high)) in
    let g : nat_lt c 2048 ≡ false = le-ltb c 2048 (omega (arith, high)) in
    let h : nat_lt c 65536 ≡ false = le-ltb c 65536 high in
    rw (f, g, h)

sum_one : (a n rest : ℕ) → a ≡ 1 → n ≡ 1 → a + rest ≡ n + rest
sum_one a n rest e f = omega (arith, e, f)

sum_two : (a b n rest : ℕ) → a ≡ 1 → b ≡ 0 → n ≡ 1 → a + (b + rest) ≡ n + rest
sum_two a b n rest e f g = omega (arith, e, f, g)

sum_three : (a b c n rest : ℕ) → a ≡ 1 → b ≡ 0 → c ≡ 0 → n ≡ 1 → a + (b + (c + rest)) ≡ n + rest
sum_three a b c n rest e f g h = omega (arith, e, f, g, h)

sum_four : (a b c d n rest : ℕ) → a ≡ 2 → b ≡ 0 → c ≡ 0 → d ≡ 0 → n ≡ 2 → a + (b + (c + (d + rest))) ≡ n + rest
sum_four a b c d n rest e f g h i = omega (arith, e, f, g, h, i)

-- the bytes of a character are as wide as its units are many
width_char : (c : ℕ) (rest : List ℕ) → width (encode c ++ rest) ≡ length (encode_utf16 c) + width rest
width_char c rest =
    elim (cases_lt c 128) [
      | inl one ↦
          ap (λ (bytes : List ℕ). width (bytes ++ rest)) (encode_one c one)
          ∙ sum_one (units c) (length (encode_utf16 c)) (width rest) (units_one c one) (unit_short c (omega (arith, one)))
      | inr past ↦ elim (cases_lt c 2048) [
        | inl two ↦
            ap (λ (bytes : List ℕ). width (bytes ++ rest)) (encode_two c past two)
            ∙ sum_two (units (192 + c / 64)) (units (128 + c % 64)) (length (encode_utf16 c)) (width rest)
            (units_lead (192 + c / 64) (omega arith) (omega (arith, two))) (units_next c) (unit_short c (omega (arith, two)))
        | inr past_two ↦ elim (cases_lt c 65536) [
          | inl three ↦
              ap (λ (bytes : List ℕ). width (bytes ++ rest)) (encode_three c past_two three)
              ∙ sum_three (units (224 + c / 4096)) (units (128 + c / 64 % 64)) (units (128 + c % 64)) (length (encode_utf16 c)) (width rest)
              (units_lead (224 + c / 4096) (omega arith) (omega (arith, three))) (units_next (c / 64)) (units_next c) (unit_short c three)
          | inr four ↦
              ap (λ (bytes : List ℕ). width (bytes ++ rest)) (encode_four c four)
              ∙ sum_four (units (240 + c / 262144)) (units (128 + c / 4096 % 64)) (units (128 + c / 64 % 64)) (units (128 + c % 64))
              (length (encode_utf16 c)) (width rest)
              (units_pair (240 + c / 262144) (omega arith)) (units_next (c / 4096)) (units_next (c / 64)) (units_next c) (unit_pair c four)
        ]
      ]
    ]

width_chars : (cs : List ℕ) → width (encodes cs) ≡ length (flat_map encode_utf16 cs)
width_chars [] = refl
width_chars (c ∷ cs) =
    width_char c (encodes cs) ∙ ap (λ (n : ℕ). length (encode_utf16 c) + n) (width_chars cs)
    ∙ sym (length-append (encode_utf16 c) (flat_map encode_utf16 cs))

pub widths : WidthsAreUtf16
widths text valid = ap width (sym (encodes-chars text valid)) ∙ width_chars (chars text)

-- ---- columns

pub one_offset : ColumnsHaveOneOffset
one_offset text column one other first second =
    elim (cases_lt one other) [
      | inl before ↦ let past = first.last other before second.within in absurd (omega (arith, past, second.passed))
      | inr after ↦ elim (cases_lt other one) [
        | inl behind ↦ let past = second.last one behind first.within in absurd (omega (arith, past, first.passed))
        | inr same ↦ omega (arith, after, same)
      ]
    ]

length-until_end : (byte : ℕ) (bytes : List ℕ) → ends_line (byte ∷ bytes) ≡ false → length (until_end (byte ∷ bytes)) ≡ suc (length (until_end bytes))
length-until_end byte bytes inside = rw inside

pub until_end-end : (byte : ℕ) (bytes : List ℕ) → ends_line (byte ∷ bytes) ≡ true → length (until_end (byte ∷ bytes)) ≡ 0
until_end-end byte bytes over = rw over

offset-end : (byte : ℕ) (bytes : List ℕ) (column : ℕ) → ends_line (byte ∷ bytes) ≡ true → column_offset (byte ∷ bytes) column ≡ 0
offset-end byte bytes column over = elim (cases_Bool (nat_lt column (units byte))) [ inl t ↦ rw t | inr f ↦ rw (f, over) ]

offset-wide : (byte : ℕ) (bytes : List ℕ) (column : ℕ) → nat_lt column (units byte) ≡ true → column_offset (byte ∷ bytes) column ≡ 0
offset-wide byte bytes column wide = rw wide

offset-inside : (byte : ℕ) (bytes : List ℕ) (column : ℕ) → nat_lt column (units byte) ≡ false → ends_line (byte ∷ bytes) ≡ false
    → column_offset (byte ∷ bytes) column ≡ suc (column_offset bytes (column - units byte))
offset-inside byte bytes column narrow inside = rw (narrow, inside)

-- nothing more of the line fits
at_start : (text : List ℕ) (column : ℕ)
    → ((later : ℕ) → 0 < later → later ≤ length (until_end text) → column < width (take later text)) → IsColumnOffset text column 0
at_start text column last = record { within = omega arith; passed = omega arith; last = last }

past_wide : (byte : ℕ) (bytes : List ℕ) (column later : ℕ) → column < units byte → 0 < later → column < width (take later (byte ∷ bytes))
past_wide byte bytes column zero wide some = absurd (omega (arith, some))
past_wide byte bytes column (suc later) wide some = omega (arith, wide)

past_next : (byte : ℕ) (bytes : List ℕ) (column offset later : ℕ) → units byte ≤ column → IsColumnOffset bytes (column - units byte) offset
    → suc offset < later → later ≤ suc (length (until_end bytes)) → column < width (take later (byte ∷ bytes))
past_next byte bytes column offset zero narrow rest after within = absurd (omega (arith, after))
past_next byte bytes column offset (suc later) narrow rest after within =
    let past = rest.last later (omega (arith, after)) (omega (arith, within)) in
    omega (arith, past, narrow)

one_more : (byte : ℕ) (bytes : List ℕ) (column offset : ℕ) → units byte ≤ column → ends_line (byte ∷ bytes) ≡ false
    → IsColumnOffset bytes (column - units byte) offset → IsColumnOffset (byte ∷ bytes) column (suc offset)
one_more byte bytes column offset narrow inside rest =
    let long = length-until_end byte bytes inside in
    record {
      within = omega (arith, long, rest.within);
      passed = omega (arith, narrow, rest.passed);
      last = λ later after within. past_next byte bytes column offset later narrow rest after (omega (arith, long, within));
    }

pub found_columns : ColumnsAreFound
found_columns [] column = at_start [] column (λ later some within. absurd (omega (arith, some, within)))
found_columns (byte ∷ bytes) column =
    elim (cases_Bool (ends_line (byte ∷ bytes))) [
      | inl over ↦
          let none = until_end-end byte bytes over in
          subst (IsColumnOffset (byte ∷ bytes) column) (sym (offset-end byte bytes column over))
          (at_start (byte ∷ bytes) column (λ later some within. absurd (omega (arith, some, within, none))))
      | inr inside ↦ elim (cases_Bool (nat_lt column (units byte))) [
        | inl wide ↦
            subst (IsColumnOffset (byte ∷ bytes) column) (sym (offset-wide byte bytes column wide))
            (at_start (byte ∷ bytes) column (λ later some within. past_wide byte bytes column later (ltb-true column (units byte) wide) some))
        | inr narrow ↦
            subst (IsColumnOffset (byte ∷ bytes) column) (sym (offset-inside byte bytes column narrow inside))
            (one_more byte bytes column (column_offset bytes (column - units byte)) (ltb-false column (units byte) narrow) inside
            (found_columns bytes (column - units byte)))
      ]
    ]
