-- How pieces lie in a text, whatever the width is.
use Rattle.std.proofs.Common.{◌≡◌, ℕ, ◌+◌, Bool, true, false, not, ◌==◌, List, [], ◌∷◌, ◌++◌, subst, arith}
use Rattle.std.proofs.lemmas.Bool.{ne_eqb}
use Rattle.source_format.specs.Pieces.{Piece, item, kept}
use Rattle.source_format.specs.Kinds.{kind_of}
use Rattle.source_format.specs.Layout.{Place, column_after, columns, gap, goes_on, item_bytes, laid, line_end, line_start, place_after}

-- pieces are a text; a line is begun before it, or none is
pub data Laying : Bool → List Piece → List ℕ → Type 0 where
  no_piece : Laying false [] []
  line_item : (text : List ℕ) (ended : Bool) {ps : List Piece} {s : List ℕ} → Laying true ps s
      → Laying false (item text ended ∷ ps) (9 ∷ (item_bytes text ended ++ s))
  next_item : (text : List ℕ) (ended : Bool) {ps : List Piece} {s : List ℕ} → Laying true ps s
      → Laying true (item text ended ∷ ps) (32 ∷ (item_bytes text ended ++ s))
  kept_line : (line : List ℕ) {ps : List Piece} {s : List ℕ} → Laying false ps s → Laying false (kept line ∷ ps) (line ++ 10 ∷ s)
  line_ends : {ps : List Piece} {s : List ℕ} → Laying false ps s → Laying true ps (10 ∷ s)

after_gap : (start on : Bool) (text : List ℕ) (ended : Bool) (ps : List Piece) (s : List ℕ) → Laying true ps s
    → Laying (not start) (item text ended ∷ ps) (gap start on ++ item_bytes text ended ++ s)
after_gap true on text ended ps s d = line_item text ended d
after_gap false true text ended ps s d = next_item text ended d
after_gap false false text ended ps s d = line_ends (line_item text ended d)

after_end : (start : Bool) (line : List ℕ) (ps : List Piece) (s : List ℕ) → Laying false ps s
    → Laying (not start) (kept line ∷ ps) (line_end start ++ line ++ 10 ∷ s)
after_end true line ps s d = kept_line line d
after_end false line ps s d = line_ends (kept_line line d)

at_end : (start : Bool) → Laying (not start) [] (line_end start)
at_end true = no_piece
at_end false = line_ends no_piece

pub begun : (start on : Bool) (column size : ℕ) → (column_after start on column size == 0) ≡ false
begun true on column size = ne_eqb (8 + size) 0 (λ e. absurd (omega arith))
begun false true column size = ne_eqb (column + 1 + size) 0 (λ e. absurd (omega arith))
begun false false column size = ne_eqb (8 + size) 0 (λ e. absurd (omega arith))

pub laid_lays : (width : ℕ) (place : Place) (ps : List Piece) → Laying (not (place.column == 0)) ps (laid width place ps)
laid_lays width place [] = at_end (place.column == 0)
laid_lays width place (item text ended ∷ ps) =
    let size = columns (item_bytes text ended) in
    let on = goes_on width place (kind_of text) size in
    let next = place_after width place (kind_of text) size in
    let rest : Laying (not (next.column == 0)) ps (laid width next ps) = laid_lays width next ps in
    let more : Laying true ps (laid width next ps) =
    subst (λ (b : Bool). Laying (not b) ps (laid width next ps)) (begun (place.column == 0) on place.column size) rest in
    after_gap (place.column == 0) on text ended ps (laid width next ps) more
laid_lays width place (kept line ∷ ps) = after_end (place.column == 0) line ps (laid width line_start ps) (laid_lays width line_start ps)
