-- The place of an offset in a line: its line's number, and the width of what is before it there.
use Rattle.std.proofs.Common.{◌≡◌, ℕ, suc, zero, ◌+◌, ◌≤◌, ◌==◌, ◌&&◌, true, false, List, [], ◌∷◌, drop, length, take, sym, ap, ap₂, subst, ◌∙◌, inl, inr}
use Rattle.std.proofs.Common.{refl, cond, arith, zero-add}
use Rattle.std.proofs.lemmas.Bool.{cases_Bool}
use Rattle.std.proofs.lemmas.List.Sums.{sum_by-append}
use Rattle.ti_text.specs.Lines.{line_count}
use Rattle.source_types.specs.declared.places.Position.{Position}
use Rattle.source_places.specs.Columns.{PlacesAreMeasured}
use Rattle.source_places.specs.LineTexts.{until_end, width}
use Rattle.source_places.specs.Position.{begins_with_newline, ends_line, line_start, lines_left, place_after, step_over, units}
use Rattle.source_places.proofs.Columns.{until_end-end}
use Rattle.source_places.proofs.Places.{at, line_start-zero, start_of-later, step_newline, step_plain, step_return, until_end-inside}

inside_parts : (byte : ℕ) (bytes : List ℕ) → ends_line (byte ∷ bytes) ≡ false → ((byte == 10) ≡ false) × ((byte == 13 && begins_with_newline bytes) ≡ false)
inside_parts byte bytes inside =
    elim (cases_Bool (byte == 10)) [
      | inl newline ↦
          let over : ends_line (byte ∷ bytes) ≡ true = rw newline in
          let bad : true ≡ false = sym over ∙ inside in
          absurd (cc)
      | inr plain ↦ (plain, rw plain at inside)
    ]

-- so far into a line
abbrev here : ℕ → ℕ → ℕ → List ℕ → Position
here line column offset rest = at line (column + width (take offset (until_end rest)))

in_line : (text : List ℕ) (line column offset : ℕ) → offset ≤ length (until_end text) → place_after (at line column) text offset ≡ here line column offset text
in_line [] line column zero within = let e : column ≡ column + 0 = omega arith in ap (at line) e
in_line [] line column (suc offset) within = absurd (omega (arith, within))
in_line (byte ∷ bytes) line column zero within = let e : column ≡ column + 0 = omega arith in ap (at line) e
in_line (byte ∷ bytes) line column (suc offset) within =
    elim (cases_Bool (ends_line (byte ∷ bytes))) [
      | inl over ↦ absurd (omega (arith, within, until_end-end byte bytes over))
      | inr inside ↦
          let parts = inside_parts byte bytes inside in
          let whole = until_end-inside byte bytes inside in
          let long : length (until_end (byte ∷ bytes)) ≡ suc (length (until_end bytes)) = ap length whole in
          let wide : width (take (suc offset) (until_end (byte ∷ bytes))) ≡ units byte + width (take offset (until_end bytes)) =
          ap (λ (t : List ℕ). width (take (suc offset) t)) whole in
          let sum : column + units byte + width (take offset (until_end bytes)) ≡ column + width (take (suc offset) (until_end (byte ∷ bytes))) =
          omega (arith, wide) in
          ap (λ (p : Position). place_after p bytes offset) (step_plain byte bytes line column parts.0 parts.1)
          ∙ in_line bytes line (column + units byte) offset (omega (arith, within, long)) ∙ ap (at line) sum
    ]

-- the column at which a line begins that is so many lines later
abbrev start_column : ℕ → ℕ → ℕ
start_column zero column = column
start_column (suc lines) column = 0

start_column-zero : (lines : ℕ) → start_column lines 0 ≡ 0
start_column-zero zero = refl
start_column-zero (suc lines) = refl

-- from the start of a text that begins at that place, the place of an offset of a line from there on
abbrev Measures : List ℕ → ℕ → ℕ → ℕ → ℕ → ℕ → Type 0
Measures text line column lines offset start =
    offset ≤ length (until_end (drop start text))
    → place_after (at line column) text (start + offset) ≡ here (line + lines) (start_column lines column) offset (drop start text)

first_line : (text : List ℕ) (line column offset : ℕ) → Measures text line column 0 offset 0
first_line text line column offset within =
    let same : line ≡ line + 0 = omega arith in
    ap (place_after (at line column) text) (zero-add offset) ∙ in_line text line column offset within ∙ ap (λ (l : ℕ). here l column offset text) same

after_newline : (byte : ℕ) (bytes : List ℕ) (line column lines offset start : ℕ) → (byte == 10) ≡ true → Measures bytes (line + 1) 0 lines offset start
    → Measures (byte ∷ bytes) line column (suc lines) offset (suc start)
after_newline byte bytes line column lines offset start newline rest within =
    let next : suc start + offset ≡ suc (start + offset) = omega arith in
    let later : line + 1 + lines ≡ line + suc lines = omega arith in
    ap (place_after (at line column) (byte ∷ bytes)) next
    ∙ ap (λ (p : Position). place_after p bytes (start + offset)) (step_newline byte bytes line column newline) ∙ rest within
    ∙ ap₂ (λ (l c : ℕ). here l c offset (drop start bytes)) later (start_column-zero lines)

after_other : (byte : ℕ) (bytes : List ℕ) (line column other lines offset start : ℕ) → step_over (byte ∷ bytes) (at line column) ≡ at line other
    → Measures bytes line other (suc lines) offset start → Measures (byte ∷ bytes) line column (suc lines) offset (suc start)
after_other byte bytes line column other lines offset start step rest within =
    let next : suc start + offset ≡ suc (start + offset) = omega arith in
    ap (place_after (at line column) (byte ∷ bytes)) next
    ∙ ap (λ (p : Position). place_after p bytes (start + offset)) step ∙ rest within

count_first : (byte : ℕ) (bytes : List ℕ) → line_count (byte ∷ bytes) ≡ line_count (byte ∷ []) + line_count bytes
count_first byte bytes = sum_by-append (λ (x : ℕ). cond (x == 10) 1 0) (byte ∷ []) bytes

pub count_newline : (byte : ℕ) (bytes : List ℕ) → (byte == 10) ≡ true → line_count (byte ∷ bytes) ≡ suc (line_count bytes)
count_newline byte bytes newline =
    let one : line_count (byte ∷ []) ≡ 1 = rw newline (omega arith) in
    omega (arith, count_first byte bytes, one)

pub count_plain : (byte : ℕ) (bytes : List ℕ) → (byte == 10) ≡ false → line_count (byte ∷ bytes) ≡ line_count bytes
count_plain byte bytes plain =
    let none : line_count (byte ∷ []) ≡ 0 = rw plain (omega arith) in
    omega (arith, count_first byte bytes, none)

pub left_newline : (byte lines : ℕ) → (byte == 10) ≡ true → lines_left (suc lines) byte ≡ lines
left_newline byte lines newline = rw newline (omega arith)

pub left_plain : (byte lines : ℕ) → (byte == 10) ≡ false → lines_left lines byte ≡ lines
left_plain byte lines plain = rw plain

measured : (text : List ℕ) (line column lines offset : ℕ) → lines ≤ line_count text → Measures text line column lines offset (line_start text lines)
measured text line column zero offset there = subst (Measures text line column 0 offset) (sym (line_start-zero text)) (first_line text line column offset)
measured [] line column (suc lines) offset there = absurd (omega (arith, there))
measured (byte ∷ bytes) line column (suc lines) offset there =
    let start = start_of-later byte bytes (suc lines) (omega arith) in
    elim (cases_Bool (byte == 10)) [
      | inl newline ↦
          let left = left_newline byte lines newline in
          let few : lines ≤ line_count bytes = omega (arith, there, count_newline byte bytes newline) in
          subst (Measures (byte ∷ bytes) line column (suc lines) offset) (sym (start ∙ ap (λ (k : ℕ). suc (line_start bytes k)) left))
          (after_newline byte bytes line column lines offset (line_start bytes lines) newline (measured bytes (line + 1) 0 lines offset few))
      | inr plain ↦
          let left = left_plain byte (suc lines) plain in
          let few : suc lines ≤ line_count bytes = omega (arith, there, count_plain byte bytes plain) in
          subst (Measures (byte ∷ bytes) line column (suc lines) offset) (sym (start ∙ ap (λ (k : ℕ). suc (line_start bytes k)) left))
          (elim (cases_Bool (byte == 13 && begins_with_newline bytes)) [
            | inl return ↦
                after_other byte bytes line column column lines offset (line_start bytes (suc lines)) (step_return byte bytes line column plain return)
                (measured bytes line column (suc lines) offset few)
            | inr inside ↦
                after_other byte bytes line column (column + units byte) lines offset (line_start bytes (suc lines))
                (step_plain byte bytes line column plain inside)
                (measured bytes line (column + units byte) (suc lines) offset few)
          ])
    ]

pub places_measured : PlacesAreMeasured
places_measured text line offset there within =
    let rest = drop (line_start text line) text in
    let lines : 0 + line ≡ line = zero-add line in
    let column : start_column line 0 + width (take offset (until_end rest)) ≡ width (take offset (until_end rest)) = omega (arith, start_column-zero line) in
    measured text 0 0 line offset there within ∙ ap₂ at lines column
