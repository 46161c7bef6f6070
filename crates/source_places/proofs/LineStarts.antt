-- A line begins at the first offset with so many newlines before it.
use Rattle.std.proofs.Common.{◌≡◌, ℕ, suc, zero, ◌+◌, ◌-◌, ◌<◌, ◌≤◌, ◌==◌, true, false, List, [], ◌∷◌, None, Some, drop, length, take, refl, sym, ap, subst, ◌∙◌}
use Rattle.std.proofs.Common.{inl, inr, arith}
use Rattle.std.proofs.lemmas.Bool.{cases_Bool, cases_lt, false_from_ne_true}
use Rattle.memchr.specs.Find.{IsFirstByte, is_byte}
use Rattle.ti_text.specs.Lines.{line_count}
use Rattle.source_places.specs.LineStarts.{IsLineStart, LinesAreFound, LinesHaveOneStart, OtherLinesAreTheEnd}
use Rattle.source_places.specs.Position.{line_start}
use Rattle.source_places.proofs.Measuring.{count_newline, count_plain, left_newline, left_plain}
use Rattle.source_places.proofs.Places.{line_start-zero, start_of-later}

pub one_start : LinesHaveOneStart
one_start text line one other first second =
    elim (cases_lt one other) [
      | inl before ↦ let few = second.first one before in absurd (omega (arith, few, first.number))
      | inr after ↦ elim (cases_lt other one) [
        | inl behind ↦ let few = first.first other behind in absurd (omega (arith, few, second.number))
        | inr same ↦ omega (arith, after, same)
      ]
    ]

at_front : (text : List ℕ) → IsLineStart text 0 0
at_front text = record { number = refl; first = λ earlier before. absurd (omega (arith, before)) }

few_newline : (byte : ℕ) (bytes : List ℕ) (line start earlier : ℕ) → (byte == 10) ≡ true → IsLineStart bytes line start → earlier < suc start
    → line_count (take earlier (byte ∷ bytes)) < suc line
few_newline byte bytes line start zero newline rest before = let none : line_count [] ≡ 0 = refl in omega (arith, none)
few_newline byte bytes line start (suc earlier) newline rest before =
    let few = rest.first earlier (omega (arith, before)) in
    omega (arith, few, count_newline byte (take earlier bytes) newline)

after_newline : (byte : ℕ) (bytes : List ℕ) (line start : ℕ) → (byte == 10) ≡ true → IsLineStart bytes line start
    → IsLineStart (byte ∷ bytes) (suc line) (suc start)
after_newline byte bytes line start newline rest = record {
  number = count_newline byte (take start bytes) newline ∙ ap suc rest.number;
  first = λ earlier before. few_newline byte bytes line start earlier newline rest before;
}

few_plain : (byte : ℕ) (bytes : List ℕ) (line start earlier : ℕ) → (byte == 10) ≡ false → IsLineStart bytes (suc line) start → earlier < suc start
    → line_count (take earlier (byte ∷ bytes)) < suc line
few_plain byte bytes line start zero plain rest before = let none : line_count [] ≡ 0 = refl in omega (arith, none)
few_plain byte bytes line start (suc earlier) plain rest before =
    let few = rest.first earlier (omega (arith, before)) in
    omega (arith, few, count_plain byte (take earlier bytes) plain)

after_plain : (byte : ℕ) (bytes : List ℕ) (line start : ℕ) → (byte == 10) ≡ false → IsLineStart bytes (suc line) start
    → IsLineStart (byte ∷ bytes) (suc line) (suc start)
after_plain byte bytes line start plain rest = record {
  number = count_plain byte (take start bytes) plain ∙ rest.number;
  first = λ earlier before. few_plain byte bytes line start earlier plain rest before;
}

pub start-newline : (byte : ℕ) (bytes : List ℕ) (line : ℕ) → (byte == 10) ≡ true → line_start (byte ∷ bytes) (suc line) ≡ suc (line_start bytes line)
start-newline byte bytes line newline =
    start_of-later byte bytes (suc line) (omega arith) ∙ ap (λ (k : ℕ). suc (line_start bytes k)) (left_newline byte line newline)

pub start-plain : (byte : ℕ) (bytes : List ℕ) (line : ℕ) → (byte == 10) ≡ false → line_start (byte ∷ bytes) (suc line) ≡ suc (line_start bytes (suc line))
start-plain byte bytes line plain =
    start_of-later byte bytes (suc line) (omega arith) ∙ ap (λ (k : ℕ). suc (line_start bytes k)) (left_plain byte (suc line) plain)

pub found_lines : LinesAreFound
found_lines text zero there = subst (IsLineStart text 0) (sym (line_start-zero text)) (at_front text)
found_lines [] (suc line) there = let none : line_count [] ≡ 0 = refl in absurd (omega (arith, there, none))
found_lines (byte ∷ bytes) (suc line) there =
    elim (cases_Bool (byte == 10)) [
      | inl newline ↦
          let few : line ≤ line_count bytes = omega (arith, there, count_newline byte bytes newline) in
          subst (IsLineStart (byte ∷ bytes) (suc line)) (sym (start-newline byte bytes line newline))
          (after_newline byte bytes line (line_start bytes line) newline (found_lines bytes line few))
      | inr plain ↦
          let few : suc line ≤ line_count bytes = omega (arith, there, count_plain byte bytes plain) in
          subst (IsLineStart (byte ∷ bytes) (suc line)) (sym (start-plain byte bytes line plain))
          (after_plain byte bytes line (line_start bytes (suc line)) plain (found_lines bytes (suc line) few))
    ]

pub past_lines : OtherLinesAreTheEnd
past_lines [] line past = refl
past_lines (byte ∷ bytes) zero past = absurd (omega (arith, past))
past_lines (byte ∷ bytes) (suc line) past =
    elim (cases_Bool (byte == 10)) [
      | inl newline ↦
          let few : line_count bytes < line = omega (arith, past, count_newline byte bytes newline) in
          start-newline byte bytes line newline ∙ ap suc (past_lines bytes line few)
      | inr plain ↦
          let few : line_count bytes < suc line = omega (arith, past, count_plain byte bytes plain) in
          start-plain byte bytes line plain ∙ ap suc (past_lines bytes (suc line) few)
    ]

-- ---- the next newline

-- after the first newline there is a line less to be passed
pub start-found : (text : List ℕ) (at line : ℕ) → IsFirstByte (is_byte 10) text (Some at) → line_start text (suc line)
    ≡ suc at + line_start (drop (suc at) text) line
start-found [] at line first = absurd (omega (arith, first.0.high))
start-found (byte ∷ bytes) zero line first = let next = start-newline byte bytes line first.1 in omega (arith, next)
start-found (byte ∷ bytes) (suc at) line first =
    let plain : (byte == 10) ≡ false = false_from_ne_true (byte == 10) (λ t. first.0.before 0 (omega arith) (omega arith) t) in
    let high : at < length bytes = omega (arith, first.0.high) in
    let rest : line_start bytes (suc line) ≡ suc at + line_start (drop (suc (suc at)) (byte ∷ bytes)) line = start-found bytes at line
    (record { low = omega arith; high = high; before = λ k low less t. first.0.before (suc k) (omega arith) (omega (arith, less)) t }, first.1) in
    omega (arith, start-plain byte bytes line plain, rest)

-- without one there is no later line
pub start-none : (text : List ℕ) (line : ℕ) → IsFirstByte (is_byte 10) text None → line_start text (suc line) ≡ length text
start-none [] line none = refl
start-none (byte ∷ bytes) line none =
    let plain : (byte == 10) ≡ false = false_from_ne_true (byte == 10) (λ t. none 0 (omega arith) (omega arith) t) in
    start-plain byte bytes line plain ∙ ap suc (start-none bytes line (λ k low less t. none (suc k) (omega arith) (omega (arith, less)) t))

-- ---- the bytes at the front that are before a line

pub start_after : (n : ℕ) (text : List ℕ) (line : ℕ) → n ≤ length text → line_count (take n text) < line
    → line_start text line ≡ n + line_start (drop n text) (line - line_count (take n text))
start_after zero text line within few =
    let none : line_count [] ≡ 0 = refl in
    let all : line ≡ line - line_count [] = omega (arith, none) in
    let same = ap (line_start text) all in
    omega (arith, same)
start_after (suc n) [] line within few = absurd (omega (arith, within))
start_after (suc n) (byte ∷ bytes) zero within few = absurd (omega (arith, few))
start_after (suc n) (byte ∷ bytes) (suc line) within few =
    elim (cases_Bool (byte == 10)) [
      | inl newline ↦
          let count = count_newline byte (take n bytes) newline in
          let rest = start_after n bytes line (omega (arith, within)) (omega (arith, few, count)) in
          let left : suc line - line_count (byte ∷ take n bytes) ≡ line - line_count (take n bytes) = omega (arith, count) in
          let same = ap (line_start (drop n bytes)) left in
          omega (arith, start-newline byte bytes line newline, rest, same)
      | inr plain ↦
          let count = count_plain byte (take n bytes) plain in
          let rest = start_after n bytes (suc line) (omega (arith, within)) (omega (arith, few, count)) in
          let same = ap (λ (k : ℕ). line_start (drop n bytes) (suc line - k)) count in
          omega (arith, start-plain byte bytes line plain, rest, same)
    ]
