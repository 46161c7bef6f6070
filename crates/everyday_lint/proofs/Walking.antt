-- Lines one after another, and columns of a line.
use Rattle.std.proofs.Common.{◌≡◌, ◌∙◌, ℕ, suc, zero, ◌+◌, ◌-◌, ◌==◌, Bool, List, [], ◌∷◌, ap, arith, drop, false, inl, inr, length, min, refl, sym, true}
use Rattle.std.specs.Prelude.{◌&&◌, nat_lt}
use Rattle.std.proofs.lemmas.Bool.{and_parts, cases_Bool, false≢true, le-ltb}
use Rattle.std.specs.List.{list_all}
use Rattle.source_places.specs.LineTexts.{until_end}
use Rattle.source_places.specs.Position.{begins_with_newline, column_offset, ends_line, line_start}
use Rattle.source_places.proofs.LineStarts.{start-newline, start-plain}
use Rattle.source_places.proofs.Places.{line_start-zero, until_end-inside}
use Rattle.everyday_lint.specs.Telling.{byte_offset}
use Rattle.everyday_lint.specs.inside.Ascii.{is_character}

zero_add : (n : ℕ) → 0 + n ≡ n
zero_add n = omega arith

suc_add : (m n : ℕ) → suc m + n ≡ suc (m + n)
suc_add m n = omega arith

-- a line begins so many lines after another
pub start-later : (text : List ℕ) (from more : ℕ) → line_start text (from + more) ≡ line_start text from + line_start (drop (line_start text from) text) more
start-later [] from more = refl
start-later (byte ∷ bytes) zero more = ap (line_start (byte ∷ bytes)) (zero_add more) ∙ sym (zero_add (line_start (byte ∷ bytes) more))
start-later (byte ∷ bytes) (suc from) more =
    let text = byte ∷ bytes in
    let counted : line_start text (suc from + more) ≡ line_start text (suc (from + more)) = ap (line_start text) (suc_add from more) in
    elim (cases_Bool (byte == 10)) [
      | inl newline ↦
          let begins = line_start bytes from in
          let there = start-newline byte bytes (from + more) newline in
          let here = start-newline byte bytes from newline in
          counted ∙ there ∙ ap suc (start-later bytes from more) ∙ sym (suc_add begins (line_start (drop begins bytes) more))
          ∙ sym (ap (λ (n : ℕ). n + line_start (drop n text) more) here)
      | inr plain ↦
          let begins = line_start bytes (suc from) in
          let there = start-plain byte bytes (from + more) plain in
          let here = start-plain byte bytes from plain in
          counted ∙ there ∙ ap suc (sym (ap (line_start bytes) (suc_add from more)) ∙ start-later bytes (suc from) more)
          ∙ sym (suc_add begins (line_start (drop begins bytes) more)) ∙ sym (ap (λ (n : ℕ). n + line_start (drop n text) more) here)
    ]

-- what ends a line begins with a newline
not_newline : (byte : ℕ) (bytes : List ℕ) → ends_line (byte ∷ bytes) ≡ false → (byte == 10) ≡ false
not_newline byte bytes plain = elim (cases_Bool (byte == 10)) [
  | inl newline ↦
      let ends : ends_line (byte ∷ bytes) ≡ true = rw newline refl in
      absurd (false≢true (sym plain ∙ ends))
  | inr other ↦ other
]

-- a line does not begin with a newline
no_newline : (text : List ℕ) → begins_with_newline (until_end text) ≡ false
no_newline [] = refl
no_newline (byte ∷ bytes) = elim (cases_Bool (ends_line (byte ∷ bytes))) [
  | inl ends ↦ ap begins_with_newline (ended byte bytes ends)
  | inr plain ↦ ap begins_with_newline (until_end-inside byte bytes plain) ∙ not_newline byte bytes plain
] where
  ended : (byte : ℕ) (bytes : List ℕ) → ends_line (byte ∷ bytes) ≡ true → until_end (byte ∷ bytes) ≡ []
  ended byte bytes ends = rw ends refl

-- a line has no end within
inside : (byte : ℕ) (bytes : List ℕ) → until_end (byte ∷ bytes) ≡ byte ∷ bytes → ends_line (byte ∷ bytes) ≡ false
inside byte bytes whole = elim (cases_Bool (ends_line (byte ∷ bytes))) [
  | inl ends ↦
      let none : until_end (byte ∷ bytes) ≡ [] = rw ends refl in
      let bad : byte ∷ bytes ≡ [] = sym whole ∙ none in
      absurd cc
  | inr plain ↦ plain
]

-- so has what is left of it
rest_whole : (byte : ℕ) (bytes : List ℕ) → until_end (byte ∷ bytes) ≡ byte ∷ bytes → until_end bytes ≡ bytes
rest_whole byte bytes whole =
    let both : byte ∷ until_end bytes ≡ byte ∷ bytes = sym (until_end-inside byte bytes (inside byte bytes whole)) ∙ whole in
    cc

-- the line of a line is itself
pub line_of_line : (text : List ℕ) → until_end (until_end text) ≡ until_end text
line_of_line [] = refl
line_of_line (byte ∷ bytes) = elim (cases_Bool (ends_line (byte ∷ bytes))) [
  | inl ends ↦
      let none : until_end (byte ∷ bytes) ≡ [] = rw ends refl in
      rw none refl
  | inr plain ↦
      let whole : until_end (byte ∷ bytes) ≡ byte ∷ until_end bytes = until_end-inside byte bytes plain in
      let goes_on : ends_line (byte ∷ until_end bytes) ≡ false = rw (not_newline byte bytes plain, no_newline bytes) (and_false (byte == 13)) in
      ap until_end whole ∙ until_end-inside byte (until_end bytes) goes_on ∙ ap (λ (rest : List ℕ). byte ∷ rest) (line_of_line bytes) ∙ sym whole
] where
  and_false : (b : Bool) → (b && false) ≡ false
  and_false true = refl
  and_false false = refl

less_one : (n : ℕ) → suc n - 1 ≡ n
less_one n = omega arith

-- where each byte is a character, columns and offsets are the same
pub ascii_column : (line : List ℕ) (column : ℕ) → list_all is_character line ≡ true → until_end line ≡ line → column_offset line column ≡ min column (length line)
ascii_column [] column ascii whole = omega arith
ascii_column (byte ∷ bytes) zero ascii whole =
    let one : nat_lt byte 128 ≡ true = (and_parts (nat_lt byte 128) (list_all is_character bytes) ascii).0 in
    rw one (omega arith)
ascii_column (byte ∷ bytes) (suc column) ascii whole =
    let both = and_parts (nat_lt byte 128) (list_all is_character bytes) ascii in
    let one : nat_lt byte 128 ≡ true = both.0 in
    let later = ascii_column bytes column both.1 (rest_whole byte bytes whole) in
    let step : column_offset (byte ∷ bytes) (suc column) ≡ suc (column_offset bytes column) =
    rw (one, le-ltb (suc column) 1 (omega arith), inside byte bytes whole)
    (ap (λ (n : ℕ). suc (column_offset bytes n)) (less_one column)) in
    step ∙ omega (arith, later)

-- the same of offsets in a line
pub ascii_offset : (line : List ℕ) (column : ℕ) → list_all is_character line ≡ true → until_end line ≡ line → min column (length line) ≡ byte_offset line column
ascii_offset line column ascii whole =
    let at_start : byte_offset line column ≡ 0 + column_offset line column = ap (λ (n : ℕ). n + column_offset (drop n line) column) (line_start-zero line) in
    sym (at_start ∙ zero_add (column_offset line column) ∙ ascii_column line column ascii whole)
