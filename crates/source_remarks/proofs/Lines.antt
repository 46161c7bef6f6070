-- The lines of hints on a block are lines of the block.
use Rattle.std.proofs.Common.{ℕ, suc, zero, ◌+◌, ◌<◌, ◌≤◌, ◌==◌, Bool, true, false, List, [], ◌∷◌, length, map, get_or, arith, subst, sym}
use Rattle.std.specs.Prelude.{if◌then◌else◌}
use Rattle.source_types.specs.declared.places.Position.{Position}
use Rattle.source_places.specs.Position.{ends_line, place_after, position_of, step_over, units}
use Rattle.source_block_hints.specs.declared.hint.Hint.{Hint}
use Rattle.source_block_hints.specs.declared.hint.HintKind.TheVariants.{WrongFormat}
use Rattle.source_remarks.specs.Hints.{mark_of}
use Rattle.source_remarks.specs.inside.Marked.{AreMarksOf}
use Rattle.source_remarks.specs.declared.marks.HintMark.{HintMark}

-- a byte is at most one line
one_of : (newline ends : Bool) (place : Position) (column : ℕ)
    → (if newline then record { line = place.line + 1; column = 0 } else if ends then place else record { line = place.line; column = column }).line ≤ suc place.line
one_of true ends place column = omega arith
one_of false true place column = omega arith
one_of false false place column = omega arith

one_line : (place : Position) (byte : ℕ) (bytes : List ℕ) → (step_over (byte ∷ bytes) place).line ≤ suc place.line
one_line place byte bytes = one_of (byte == 10) (ends_line (byte ∷ bytes)) place (place.column + units byte)

line_after : (place : Position) (text : List ℕ) (offset : ℕ) → (place_after place text offset).line ≤ place.line + length text
line_after place [] offset = omega arith
line_after place (byte ∷ bytes) zero = omega arith
line_after place (byte ∷ bytes) (suc offset) =
    let step = one_line place byte bytes in
    let rest = line_after (step_over (byte ∷ bytes) place) bytes offset in
    omega (arith, step, rest)

line_within : (text : List ℕ) (offset : ℕ) → (position_of text offset).line ≤ length text
line_within text offset = let e = line_after (record { line = 0; column = 0 }) text offset in omega (arith, e)

-- what is shown of a block begins and ends on a line of it
pub record IsOnLines (text : List ℕ) (mark : HintMark) : Type 0 where
  pub start : mark.range.start.line ≤ length text
  pub end : mark.range.end.line ≤ length text

each : (text : List ℕ) (hints : List Hint) (i : ℕ) (d : HintMark) → i < length (map (mark_of text) hints) → IsOnLines text (get_or (map (mark_of text) hints) i d)
each text [] i d within = absurd (omega arith)
each text (hint ∷ hints) zero d within = record { start = line_within text _; end = line_within text _ }
each text (hint ∷ hints) (suc i) d within = each text hints i d (omega (arith, within))

pub on_lines : (text : List ℕ) (marks : List HintMark) (i : ℕ) (d : HintMark) → AreMarksOf text marks → i < length marks → IsOnLines text (get_or marks i d)
on_lines text marks i d are within =
    subst (λ (all : List HintMark). IsOnLines text (get_or all i d)) (sym are.are)
    (each text are.hints i d (subst (λ (all : List HintMark). i < length all) are.are within))

-- what is read past the end of some marks
abbrev pub no_mark : HintMark
no_mark = record {
  hint = record { kind = WrongFormat; start = 0; end = 0; detail_start = 0; detail_end = 0 };
  range = record { start = record { line = 0; column = 0 }; end = record { line = 0; column = 0 } };
}
