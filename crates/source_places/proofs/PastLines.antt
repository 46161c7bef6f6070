-- The place of the start of a line is the number of the newlines before it; and that of an offset past the
-- end is that of the end.
use Rattle.std.proofs.Common.{◌≡◌, ℕ, zero, suc, ◌+◌, ◌<◌, ◌≤◌, ◌==◌, ◌&&◌, true, false, List, [], ◌∷◌, get_or, length, min, take, refl, sym, ap, ◌∙◌, inl, inr, arith}
use Rattle.std.proofs.Math.Nat.{le-min, min-le_left, min-le_right}
use Rattle.std.proofs.lemmas.Bool.{cases_Bool, cases_lt}
use Rattle.ti_text.specs.Lines.{line_count}
use Rattle.source_types.specs.declared.places.Position.{Position}
use Rattle.source_places.specs.Position.{begins_with_newline, place_after, position_of, step_over, units}
use Rattle.source_places.proofs.Measuring.{count_newline, count_plain}
use Rattle.source_places.proofs.Onward.{place_first}
use Rattle.source_places.proofs.Places.{at, step_newline, step_plain, step_return}

-- the place after a newline, if the text begins at that place
abbrev Starts : ℕ → ℕ → List ℕ → ℕ → Type 0
Starts line column text n = place_after (at line column) text (suc n) ≡ at (line + line_count (take (suc n) text)) 0

later_start : (byte : ℕ) (bytes : List ℕ) (line column next other n : ℕ) → step_over (byte ∷ bytes) (at line column) ≡ at next other
    → next + line_count (take (suc n) bytes) ≡ line + line_count (take (suc (suc n)) (byte ∷ bytes)) → Starts next other bytes n
    → Starts line column (byte ∷ bytes) (suc n)
later_start byte bytes line column next other n step sum rest =
    ap (λ (p : Position). place_after p bytes (suc n)) step ∙ rest ∙ ap (λ (l : ℕ). at l 0) sum

line_starts : (text : List ℕ) (line column n : ℕ) → n < length text → (get_or text n 0 == 10) ≡ true → Starts line column text n
line_starts [] line column n within newline = absurd (omega (arith, within))
line_starts (byte ∷ bytes) line column zero within newline =
    let count = count_newline byte [] newline in
    let none : line_count [] ≡ 0 = refl in
    let sum : line + 1 ≡ line + line_count (byte ∷ []) = omega (arith, count, none) in
    ap (λ (p : Position). place_after p bytes 0) (step_newline byte bytes line column newline)
    ∙ place_first (at (line + 1) 0) bytes ∙ ap (λ (l : ℕ). at l 0) sum
line_starts (byte ∷ bytes) line column (suc n) within newline =
    let inside : n < length bytes = omega (arith, within) in
    elim (cases_Bool (byte == 10)) [
      | inl ends ↦
          let sum : line + 1 + line_count (take (suc n) bytes) ≡ line + line_count (take (suc (suc n)) (byte ∷ bytes)) =
          omega (arith, count_newline byte (take (suc n) bytes) ends) in
          later_start byte bytes line column (line + 1) 0 n (step_newline byte bytes line column ends) sum
          (line_starts bytes (line + 1) 0 n inside newline)
      | inr plain ↦
          let sum : line + line_count (take (suc n) bytes) ≡ line + line_count (take (suc (suc n)) (byte ∷ bytes)) =
          omega (arith, count_plain byte (take (suc n) bytes) plain) in
          elim (cases_Bool (byte == 13 && begins_with_newline bytes)) [
            | inl return ↦
                later_start byte bytes line column line column n (step_return byte bytes line column plain return) sum
                (line_starts bytes line column n inside newline)
            | inr inner ↦
                later_start byte bytes line column line (column + units byte) n (step_plain byte bytes line column plain inner) sum
                (line_starts bytes line (column + units byte) n inside newline)
          ]
    ]

pub start_counted : (text : List ℕ) (n : ℕ) → n < length text → (get_or text n 0 == 10) ≡ true
    → record { line = line_count (take (n + 1) text); column = 0 } ≡ position_of text (n + 1)
start_counted text n within newline =
    let next : n + 1 ≡ suc n = omega arith in
    let zero_more : line_count (take (n + 1) text) ≡ 0 + line_count (take (suc n) text) = omega (arith, ap (λ (k : ℕ). line_count (take k text)) next) in
    ap (λ (l : ℕ). at l 0) zero_more ∙ sym (line_starts text 0 0 n within newline) ∙ ap (position_of text) (sym next)

-- ---- past the end

place_full : (place : Position) (text : List ℕ) (offset : ℕ) → length text ≤ offset → place_after place text (length text) ≡ place_after place text offset
place_full place [] offset past = refl
place_full place (byte ∷ bytes) zero past = absurd (omega (arith, past))
place_full place (byte ∷ bytes) (suc offset) past = place_full (step_over (byte ∷ bytes) place) bytes offset (omega (arith, past))

pub place_within : (text : List ℕ) (offset : ℕ) → position_of text (min offset (length text)) ≡ position_of text offset
place_within text offset =
    elim (cases_lt offset (length text)) [
      | inl within ↦
          let most : offset ≤ min offset (length text) = le-min (omega arith) (omega (arith, within)) in
          let is : min offset (length text) ≡ offset = omega (arith, most, min-le_left offset (length text)) in
          ap (position_of text) is
      | inr past ↦
          let most : length text ≤ min offset (length text) = le-min (omega (arith, past)) (omega arith) in
          let is : min offset (length text) ≡ length text = omega (arith, most, min-le_right offset (length text)) in
          ap (position_of text) is ∙ place_full (record { line = 0; column = 0 }) text offset (omega (arith, past))
    ]
