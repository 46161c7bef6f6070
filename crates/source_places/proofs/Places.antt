-- That places and offsets are inverse at the start of a character, and how both are found step by
-- step.
use Rattle.std.proofs.Common.{◌≡◌, ◌⊎◌, ℕ, suc, zero, ◌+◌, ◌-◌, ◌<◌, ◌≤◌, ◌==◌, ◌&&◌, not, true, false, List, [], ◌∷◌, ◌++◌, drop, get_or, length, min}
use Rattle.std.proofs.Common.{take, refl, sym, ap, subst, ◌∙◌, inl, inr, arith}
use Rattle.std.specs.Prelude.{nat_lt}
use Rattle.std.proofs.lemmas.Bool.{and_parts, cases_Bool, cases_lt, le-ltb, lt-ltb, ltb-true, ne_eqb, not-true}
use Rattle.std.proofs.lemmas.List.{append_assoc, drop_all, drop_more, take_more}
use Rattle.std.proofs.Math.Nat.{le-min}
use Rattle.source_places.specs.LineTexts.{until_end}
use Rattle.source_places.specs.Position.{PositionsAreInverse, begins_with_newline, column_offset, ends_line, is_start, line_start, lines_left, place_after}
use Rattle.source_places.specs.Position.{position_of, step_over, units}
use Rattle.source_types.specs.declared.places.Position.{Position}

pub line_start-zero : (text : List ℕ) → line_start text 0 ≡ 0
line_start-zero [] = refl
line_start-zero (byte ∷ bytes) = refl

less_none : (n : ℕ) → n ≡ n - 0
less_none n = omega arith

-- the offset of a place that is so many lines later
abbrev offset_later : List ℕ → ℕ → ℕ → ℕ
offset_later text lines column = line_start text lines + column_offset (drop (line_start text lines) text) column

-- what the place of an offset is, if the text begins at that line and column: one in that line, or
-- in a later one
abbrev Finds : List ℕ → ℕ → ℕ → ℕ → Position → Type 0
Finds text offset line column place =
    ((place.line ≡ line) × (column ≤ place.column) × (column_offset text (place.column - column) ≡ offset))
    ⊎ ((line < place.line) × (offset_later text (place.line - line) place.column ≡ offset))

abbrev pub at : ℕ → ℕ → Position
at line column = record { line = line; column = column }

pub start_of-later : (byte : ℕ) (bytes : List ℕ) (lines : ℕ) → 0 < lines → line_start (byte ∷ bytes) lines ≡ suc (line_start bytes (lines_left lines byte))
start_of-later byte bytes lines some = let z : (lines == 0) ≡ false = ne_eqb lines 0 (λ e. omega (arith, e, some)) in rw z

-- a later line is found after one byte more
one_later : (byte : ℕ) (bytes : List ℕ) (lines column offset : ℕ) → 0 < lines → offset_later bytes (lines_left lines byte) column ≡ offset
    → offset_later (byte ∷ bytes) lines column ≡ suc offset
one_later byte bytes lines column offset some e =
    let start = line_start bytes (lines_left lines byte) in
    let next : suc start + column_offset (drop start bytes) column ≡ suc offset = omega (arith, e) in
    let P : ℕ → Type 0 = λ s. s + column_offset (drop s (byte ∷ bytes)) column ≡ suc offset in
    subst P (sym (start_of-later byte bytes lines some)) next

later_plain : (byte : ℕ) (bytes : List ℕ) (lines column offset : ℕ) → (byte == 10) ≡ false → 0 < lines → offset_later bytes lines column ≡ offset
    → offset_later (byte ∷ bytes) lines column ≡ suc offset
later_plain byte bytes lines column offset plain some e =
    let left : lines_left lines byte ≡ lines = rw plain in
    one_later byte bytes lines column offset some (ap (λ k. offset_later bytes k column) left ∙ e)

later_newline : (byte : ℕ) (bytes : List ℕ) (lines column offset : ℕ) → (byte == 10) ≡ true → offset_later bytes lines column ≡ offset
    → offset_later (byte ∷ bytes) (suc lines) column ≡ suc offset
later_newline byte bytes lines column offset newline e =
    let left : lines_left (suc lines) byte ≡ lines = rw newline (omega arith) in
    one_later byte bytes (suc lines) column offset (omega arith) (ap (λ k. offset_later bytes k column) left ∙ e)

-- if a newline begins the text, each column is at its beginning
column-newline : (text : List ℕ) (column : ℕ) → begins_with_newline text ≡ true → column_offset text column ≡ 0
column-newline [] column newline = refl
column-newline (byte ∷ bytes) column newline = elim (cases_Bool (nat_lt column (units byte))) [ inl t ↦ rw t | inr f ↦ rw (f, newline) ]

-- and the first byte of it is no start after a CR
newline_no-start : (before : ℕ) (text : List ℕ) → (before == 13) ≡ true → begins_with_newline text ≡ true → is_start before text 0 ≡ true → ⊥
newline_no-start before [] return newline start = absurd (cc)
newline_no-start before (byte ∷ bytes) return newline start =
    let parts = and_parts (nat_lt 0 (units byte)) (not (before == 13 && byte == 10)) start in
    let apart : (before == 13 && byte == 10) ≡ false = not-true (before == 13 && byte == 10) parts.1 in
    let both : (before == 13 && byte == 10) ≡ true = rw (return, newline) in
    let bad : true ≡ false = sym both ∙ apart in
    absurd (cc)

-- a character in the line is found after one byte more
column_next : (byte : ℕ) (bytes : List ℕ) (column line_column offset : ℕ) → (byte == 10) ≡ false → (byte == 13 && begins_with_newline bytes) ≡ false
    → line_column + units byte ≤ column → column_offset bytes (column - (line_column + units byte)) ≡ offset
    → column_offset (byte ∷ bytes) (column - line_column) ≡ suc offset
column_next byte bytes column line_column offset plain inside after e =
    let wide : nat_lt (column - line_column) (units byte) ≡ false = le-ltb (column - line_column) (units byte) (omega (arith, after)) in
    let same : column - line_column - units byte ≡ column - (line_column + units byte) = omega arith in
    rw (wide, plain, inside) (ap (λ k. suc (column_offset bytes k)) same ∙ ap suc e)

-- after a newline the place is in a later line
after_newline : (byte : ℕ) (bytes : List ℕ) (offset line : ℕ) (place : Position) → (byte == 10) ≡ true → Finds bytes offset (line + 1) 0 place
    → (line < place.line) × (offset_later (byte ∷ bytes) (place.line - line) place.column ≡ suc offset)
after_newline byte bytes offset line place newline (inl here) =
    let one : place.line - line ≡ suc 0 = omega (arith, here.0) in
    let first : offset_later bytes 0 place.column ≡ offset =
    (let P : ℕ → Type 0 = λ s. s + column_offset (drop s bytes) place.column ≡ offset in
    let plain : column_offset bytes place.column ≡ offset = ap (column_offset bytes) (less_none place.column) ∙ here.2 in
    subst P (sym (line_start-zero bytes)) (omega (arith, plain))) in
    (omega (arith, here.0), ap (λ k. offset_later (byte ∷ bytes) k place.column) one ∙ later_newline byte bytes 0 place.column offset newline first)
after_newline byte bytes offset line place newline (inr later) =
    let more : place.line - line ≡ suc (place.line - (line + 1)) = omega (arith, later.0) in (
      omega (arith, later.0),
      ap (λ k. offset_later (byte ∷ bytes) k place.column) more
          ∙ later_newline byte bytes (place.line - (line + 1)) place.column offset newline later.1,
    )

-- after the CR of a CR LF too, since no character begins at the LF
after_return : (byte : ℕ) (bytes : List ℕ) (offset line column : ℕ) (place : Position) → (byte == 10) ≡ false → (byte == 13 && begins_with_newline bytes) ≡ true
    → is_start byte bytes offset ≡ true → Finds bytes offset line column place
    → (line < place.line) × (offset_later (byte ∷ bytes) (place.line - line) place.column ≡ suc offset)
after_return byte bytes offset line column place plain return start (inl here) =
    let parts = and_parts (byte == 13) (begins_with_newline bytes) return in
    let none : offset ≡ 0 = sym here.2 ∙ column-newline bytes (place.column - column) parts.1 in
    absurd (newline_no-start byte bytes parts.0 parts.1 (subst (λ (n : ℕ). is_start byte bytes n ≡ true) none start))
after_return byte bytes offset line column place plain return start (inr later) =
    (later.0, later_plain byte bytes (place.line - line) place.column offset plain (omega (arith, later.0)) later.1)

-- after any other byte it is in the same line, or in a later one
after_plain : (byte : ℕ) (bytes : List ℕ) (offset line column : ℕ) (place : Position) → (byte == 10) ≡ false → (byte == 13 && begins_with_newline bytes) ≡ false
    → Finds bytes offset line (column + units byte) place → Finds (byte ∷ bytes) (suc offset) line column place
after_plain byte bytes offset line column place plain inside (inl here) =
    inl (here.0, omega (arith, here.1), column_next byte bytes place.column column offset plain inside here.1 here.2)
after_plain byte bytes offset line column place plain inside (inr later) =
    inr (later.0, later_plain byte bytes (place.line - line) place.column offset plain (omega (arith, later.0)) later.1)

pub step_newline : (byte : ℕ) (bytes : List ℕ) (line column : ℕ) → (byte == 10) ≡ true → step_over (byte ∷ bytes) (at line column) ≡ at (line + 1) 0
step_newline byte bytes line column newline = rw newline

pub step_return : (byte : ℕ) (bytes : List ℕ) (line column : ℕ) → (byte == 10) ≡ false → (byte == 13 && begins_with_newline bytes) ≡ true
    → step_over (byte ∷ bytes) (at line column) ≡ at line column
step_return byte bytes line column plain return = rw (plain, return)

pub step_plain : (byte : ℕ) (bytes : List ℕ) (line column : ℕ) → (byte == 10) ≡ false → (byte == 13 && begins_with_newline bytes) ≡ false
    → step_over (byte ∷ bytes) (at line column) ≡ at line (column + units byte)
step_plain byte bytes line column plain inside = rw (plain, inside)

-- the place of an offset after the first byte, if those of the bytes after it are as they should be
found_next : (byte : ℕ) (bytes : List ℕ) (offset line column : ℕ) → is_start byte bytes offset ≡ true
    → ((l c : ℕ) → Finds bytes offset l c (place_after (at l c) bytes offset))
    → Finds (byte ∷ bytes) (suc offset) line column (place_after (step_over (byte ∷ bytes) (at line column)) bytes offset)
found_next byte bytes offset line column start rest =
    let P : Position → Type 0 = λ p. Finds (byte ∷ bytes) (suc offset) line column (place_after p bytes offset) in
    elim (cases_Bool (byte == 10)) [
      | inl newline ↦ subst P (sym (step_newline byte bytes line column newline))
          (inr (after_newline byte bytes offset line (place_after (at (line + 1) 0) bytes offset) newline (rest (line + 1) 0)))
      | inr plain ↦ elim (cases_Bool (byte == 13 && begins_with_newline bytes)) [
        | inl return ↦ subst P (sym (step_return byte bytes line column plain return))
            (inr (after_return byte bytes offset line column (place_after (at line column) bytes offset) plain return start (rest line column)))
        | inr inside ↦ subst P (sym (step_plain byte bytes line column plain inside))
            (after_plain byte bytes offset line column (place_after (at line (column + units byte)) bytes offset) plain inside
            (rest line (column + units byte)))
      ]
    ]

pub found : (before : ℕ) (text : List ℕ) (offset line column : ℕ) → offset ≤ length text → is_start before text offset ≡ true
    → Finds text offset line column (place_after (at line column) text offset)
found before [] offset line column within start = inl (refl, omega arith, omega arith)
found before (byte ∷ bytes) zero line column within start =
    let parts = and_parts (nat_lt 0 (units byte)) (not (before == 13 && byte == 10)) start in
    let wide : nat_lt (column - column) (units byte) ≡ true = lt-ltb (column - column) (units byte) (omega (arith, ltb-true 0 (units byte) parts.0)) in
    inl (refl, omega arith, rw wide)
found before (byte ∷ bytes) (suc offset) line column within start =
    found_next byte bytes offset line column start (λ l c. found byte bytes offset l c (omega (arith, within)) start)

pub inverse : PositionsAreInverse
inverse text offset within start =
    elim (found 0 text offset 0 0 within start) [
      | inl here ↦
          let p = position_of text offset in
          let start_line : line_start text p.line ≡ 0 = ap (line_start text) here.0 ∙ line_start-zero text in
          let P : ℕ → Type 0 = λ s. s + column_offset (drop s text) p.column ≡ offset in
          let plain : column_offset text p.column ≡ offset = ap (column_offset text) (less_none p.column) ∙ here.2 in
          subst P (sym start_line) (omega (arith, plain))
      | inr later ↦ ap (λ n. offset_later text n (position_of text offset).column) (less_none (position_of text offset).line) ∙ later.1
    ]

-- ---- the place of an offset, step by step

pub place_next : (text : List ℕ) (place : Position) (i offset : ℕ) → i < length text → i < offset
    → place_after place (drop i text) (offset - i) ≡ place_after (step_over (drop i text) place) (drop (i + 1) text) (offset - (i + 1))
place_next text place i offset within before =
    let byte = get_or text i 0 in
    let rest = drop (i + 1) text in
    let head = drop_more text i 0 within in
    let more : offset - i ≡ suc (offset - (i + 1)) = omega (arith, before) in
    ap (λ t. place_after place t (offset - i)) head ∙ ap (place_after place (byte ∷ rest)) more
    ∙ ap (λ t. place_after (step_over t place) rest (offset - (i + 1))) (sym head)

place-here : (text : List ℕ) (place : Position) → place_after place text 0 ≡ place
place-here [] place = refl
place-here (byte ∷ bytes) place = refl

pub place_end : (text : List ℕ) (place : Position) (i offset : ℕ) → min offset (length text) ≤ i → place_after place (drop i text) (offset - i) ≡ place
place_end text place i offset past =
    elim (cases_lt i (length text)) [
      | inl within ↦ elim (cases_lt i offset) [
        | inl before ↦ let both : suc i ≤ min offset (length text) = le-min before within in absurd (omega (arith, both, past))
        | inr after ↦ let none : offset - i ≡ 0 = omega (arith, after) in ap (place_after place (drop i text)) none ∙ place-here (drop i text) place
      ]
      | inr past_end ↦ ap (λ t. place_after place t (offset - i)) (drop_all i text past_end)
    ]

-- ---- the first line, step by step

pub until_end-inside : (byte : ℕ) (bytes : List ℕ) → ends_line (byte ∷ bytes) ≡ false → until_end (byte ∷ bytes) ≡ byte ∷ until_end bytes
until_end-inside byte bytes inside = rw inside

pub until_end_next : (text : List ℕ) (i : ℕ) → i < length text → ends_line (drop i text) ≡ false → take i text ++ until_end (drop i text) ≡ until_end text
    → take (i + 1) text ++ until_end (drop (i + 1) text) ≡ until_end text
until_end_next text i within inside e =
    let byte = get_or text i 0 in
    let rest = drop (i + 1) text in
    let head = drop_more text i 0 within in
    let plain : ends_line (byte ∷ rest) ≡ false = ap ends_line (sym head) ∙ inside in
    let next : until_end (byte ∷ rest) ≡ byte ∷ until_end rest = until_end-inside byte rest plain in
    ap (λ t. t ++ until_end rest) (take_more text i 0 within) ∙ append_assoc (take i text) (byte ∷ []) (until_end rest)
    ∙ ap (λ t. take i text ++ t) (sym next ∙ ap until_end (sym head)) ∙ e
