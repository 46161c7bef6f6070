-- The lines of a text without the CR of CR LF.
use Rattle.std.proofs.Common.{◌≡◌, ◌==◌, ◌&&◌, ◌||◌, ℕ, Bool, true, false, cond, List, [], ◌∷◌, refl, sym, ap, ◌∙◌}
use Rattle.std.proofs.lemmas.Bool.{eqb-true}
use Rattle.source_places.specs.LineTexts.{line_of, until_end}
use Rattle.source_places.specs.Position.{ends_line, lines_left}
use Rattle.source_plain.specs.Laws.{LinesStay}
use Rattle.source_plain.specs.Reading.{is_return_at, plain_lines}
use Rattle.source_plain.specs.Writing.{has_return}
use Rattle.source_plain.proofs.Returns.{or_false}

and_false : (b : Bool) → (b && false) ≡ false
and_false true = refl
and_false false = refl

or_none : (b : Bool) → (b || false) ≡ b
or_none true = refl
or_none false = refl

and_true : (a b : Bool) → (a && b) ≡ true → (a ≡ true) × (b ≡ true)
and_true true b e = (refl, e)
and_true false b e = absurd cc

-- a line ends with LF, or where CR LF begins
ends_by : (byte : ℕ) (text : List ℕ) → ends_line (byte ∷ text) ≡ (byte == 10 || is_return_at (byte ∷ text))
ends_by byte [] = ap (λ (b : Bool). byte == 10 || b) (and_false (byte == 13))
ends_by byte (next ∷ text) = refl

cut_at : (byte : ℕ) (text : List ℕ) (over : Bool) → ends_line (byte ∷ text) ≡ over → until_end (byte ∷ text) ≡ cond over [] (byte ∷ until_end text)
cut_at byte text true e = rw e refl
cut_at byte text false e = rw e refl

-- the first line is that with which the text begins, and a later one is of what is after its first byte
first_line : (text : List ℕ) → line_of text 0 ≡ until_end text
first_line [] = refl
first_line (byte ∷ text) = refl

line_at : (byte : ℕ) (text : List ℕ) (line : ℕ) (first : Bool) → (line == 0) ≡ first
    → line_of (byte ∷ text) line ≡ cond first (until_end (byte ∷ text)) (line_of text (lines_left line byte))
line_at byte text line true e = rw e refl
line_at byte text line false e = rw e refl

-- a byte before both, which begins no CR LF in either
same_first : (byte : ℕ) (one other : List ℕ) → is_return_at (byte ∷ one) ≡ false → is_return_at (byte ∷ other) ≡ false
    → until_end one ≡ until_end other → until_end (byte ∷ one) ≡ until_end (byte ∷ other)
same_first byte one other here there same =
    let over : (text : List ℕ) → is_return_at (byte ∷ text) ≡ false → ends_line (byte ∷ text) ≡ (byte == 10) =
    (λ text none. ends_by byte text ∙ ap (λ (b : Bool). byte == 10 || b) none ∙ or_none (byte == 10)) in
    cut_at byte one (byte == 10) (over one here) ∙ ap (λ (line : List ℕ). cond (byte == 10) [] (byte ∷ line)) same
    ∙ sym (cut_at byte other (byte == 10) (over other there))

-- the CR of CR LF before a text
before_newline : (next : ℕ) (text : List ℕ) (line : ℕ) (first : Bool) → (line == 0) ≡ first → (next == 10) ≡ true
    → line_of (next ∷ text) line ≡ line_of (13 ∷ next ∷ text) line
before_newline next text line true e newline =
    line_at next text line true e ∙ cut_at next text true (rw newline refl) ∙ sym (line_at 13 (next ∷ text) line true e ∙ cut_at 13 (next ∷ text) true newline)
before_newline next text line false e newline = sym (line_at 13 (next ∷ text) line false e)

left_out : (byte : ℕ) (text : List ℕ) (line : ℕ) → is_return_at (byte ∷ text) ≡ true → line_of text line ≡ line_of (byte ∷ text) line
left_out byte [] line e = absurd cc
left_out byte (next ∷ text) line e =
    let both = and_true (byte == 13) (next == 10) e in
    rw (eqb-true byte 13 both.0) (before_newline next text line (line == 0) refl both.1)

stay : (byte : ℕ) (one other : List ℕ) (line : ℕ) (first : Bool) → (line == 0) ≡ first → until_end (byte ∷ one) ≡ until_end (byte ∷ other)
    → line_of one (lines_left line byte) ≡ line_of other (lines_left line byte) → line_of (byte ∷ one) line ≡ line_of (byte ∷ other) line
stay byte one other line true e firsts laters = line_at byte one line true e ∙ firsts ∙ sym (line_at byte other line true e)
stay byte one other line false e firsts laters = line_at byte one line false e ∙ laters ∙ sym (line_at byte other line false e)

pub lines_stay : LinesStay
lines_stay [] line none = refl
lines_stay (byte ∷ text) line none =
    elim (is_return_at (byte ∷ text)) as (λ t. is_return_at (byte ∷ text) ≡ t → has_return (cond t (plain_lines text) (byte ∷ plain_lines text)) ≡ false
    → line_of (cond t (plain_lines text) (byte ∷ plain_lines text)) line ≡ line_of (byte ∷ text) line) [
      | true ↦ λ e h. lines_stay text line h ∙ left_out byte text line e
      | false ↦ λ e h.
          let both = or_false (is_return_at (byte ∷ plain_lines text)) (has_return (plain_lines text)) h in
          let firsts = sym (first_line (plain_lines text)) ∙ lines_stay text 0 both.1 ∙ first_line text in
          stay byte (plain_lines text) text line (line == 0) refl (same_first byte (plain_lines text) text both.0 e firsts)
          (lines_stay text (lines_left line byte) both.1)
    ] refl none
