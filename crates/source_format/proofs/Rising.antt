-- The items of a block, and its kept lines, are in the order of their lines.
use Rattle.std.proofs.Common.{ℕ, ◌+◌, ◌≤◌, ◌==◌, ◌||◌, ◌&&◌, Bool, true, false, cond, List, [], ◌∷◌, map, sym, subst, inl, inr, arith}
use Rattle.std.proofs.lemmas.Bool.{cases_Bool}
use Rattle.ti_text.specs.WhiteSpace.{is_white_space}
use Rattle.ti_source.specs.Folding.{PlacedByte}
use Rattle.ti_source.specs.Items.{ItemPiece, bytes, item_piece, line_of, piece_of, without_front}
use Rattle.ti_source.specs.Walking.{block_items}
use Rattle.ti_source.specs.inside.Folding.{bytes_on_lines, folding_of, in_comment, without_breaks, without_comments}
use Rattle.ti_source.specs.inside.Items.{after_field}
use Rattle.source_spans.specs.Parts.{with_first}
use Rattle.source_spans.proofs.Escaping.{Escape, cuts, escape_after, items_of, nothing}
use Rattle.source_format.specs.Pieces.{KeptLine, is_kept, kept_from, kept_lines, lines_of}
use Rattle.source_format.proofs.Cut.{items_computed}

-- ---- bytes

-- no byte is on a line before that of the byte before it; the first is on none before `from`
abbrev pub AreRising : ℕ → List PlacedByte → Type 0
AreRising from [] = Unit {0}
AreRising from (x ∷ xs) = (from ≤ x.1) × AreRising x.1 xs

rising-low : (low from : ℕ) (s : List PlacedByte) → low ≤ from → AreRising from s → AreRising low s
rising-low low from [] h r = tt
rising-low low from (x ∷ xs) h r = (omega (arith, r.0), r.1)

-- the same without its first byte
rising-rest : (from : ℕ) (x : PlacedByte) (xs : List PlacedByte) → AreRising from (x ∷ xs) → AreRising from xs
rising-rest from x xs r = rising-low from x.1 xs r.0 r.1

next_line : (line : ℕ) (b : Bool) → line ≤ cond b (line + 1) line
next_line line true = omega arith
next_line line false = omega arith

rising-block : (line : ℕ) (s : List ℕ) → AreRising line (bytes_on_lines line s)
rising-block line [] = tt
rising-block line (x ∷ xs) =
    let next = cond (x == 10) (line + 1) line in
    (omega arith, rising-low line next (bytes_on_lines next xs) (next_line line (x == 10)) (rising-block next xs))

rising-comments : (comment : Bool) (before from : ℕ) (s : List PlacedByte) → AreRising from s → AreRising from (without_comments comment before s)
rising-comments comment before from [] r = tt
rising-comments comment before from (x ∷ xs) r =
    elim (cases_Bool (in_comment comment before x.0)) [
      | inl t ↦ rw t (rising-comments true x.0 from xs (rising-rest from x xs r))
      | inr f ↦ rw f (r.0, rising-comments false x.0 x.1 xs r.1)
    ]

rising-breaks : (joining : Bool) (from : ℕ) (s : List PlacedByte) → AreRising from s → AreRising from (without_breaks joining s)
rising-breaks joining from [] r = tt
rising-breaks joining from (x ∷ xs) r =
    elim (cases_Bool (x.0 == 10 || (joining && is_white_space x.0))) [
      | inl t ↦ rw t (rising-breaks true from xs (rising-rest from x xs r))
      | inr f ↦ rw f (r.0, rising-breaks false x.1 xs r.1)
    ]

rising-items : (from : ℕ) (s : List PlacedByte) → AreRising from s → AreRising from (after_field s)
rising-items from [] r = tt
rising-items from (x ∷ xs) r =
    elim (cases_Bool (x.0 == 44)) [
      | inl t ↦ rw t (rising-rest from x xs r)
      | inr f ↦ rw f (rising-items from xs (rising-rest from x xs r))
    ]

-- ---- items

-- the line of the last byte
abbrev pub last_line : ℕ → List PlacedByte → ℕ
last_line from [] = from
last_line from (x ∷ xs) = last_line x.1 xs

abbrev pub AllRising : ℕ → List (List PlacedByte) → Type 0
AllRising from [] = Unit {0}
AllRising from (i ∷ is) = AreRising from i × AllRising (last_line from i) is

rising-first : (from : ℕ) (x : PlacedByte) (all : List (List PlacedByte)) → from ≤ x.1 → AllRising x.1 all → AllRising from (with_first x all)
rising-first from x [] h r = ((h, tt), tt)
rising-first from x (i ∷ is) h r = ((h, r.0), r.1)

items_rising : (by : Escape) (before from : ℕ) (s : List PlacedByte) → AreRising from s → AllRising from (items_of by before s)
items_rising by before from [] r = (tt, tt)
items_rising by before from (x ∷ xs) r =
    elim (cases_Bool (cuts by x.0)) [
      | inl t ↦ rw t (tt, items_rising nothing 44 from xs (rising-rest from x xs r))
      | inr f ↦ rw f (rising-first from x (items_of (escape_after by before x.0) x.0 xs) r.0 (items_rising (escape_after by before x.0) x.0 x.1 xs r.1))
    ]

block_rising : (block : List ℕ) → AllRising 1 (block_items block)
block_rising block =
    let placed = bytes_on_lines 1 block in
    let left = without_comments false 10 placed in
    let folded = rising-breaks false 1 left (rising-comments false 10 1 placed (rising-block 1 block)) in
    subst (AllRising 1) (sym (items_computed block)) (items_rising nothing 44 1 (after_field (folding_of block)) (rising-items 1 (folding_of block) folded))

-- ---- items as they are read

-- Items are in the order of their lines, from a line on; an empty one has none.
pub data InOrder : ℕ → List ItemPiece → Type 0 where
  no_item : {from : ℕ} → InOrder from []
  empty_item : {from : ℕ} {ps : List ItemPiece} → InOrder from ps → InOrder from (item_piece [] 0 ∷ ps)
  full_item : {from : ℕ} (x : ℕ) {xs : List ℕ} {line : ℕ} {ps : List ItemPiece} → from ≤ line → InOrder line ps → InOrder from (item_piece (x ∷ xs) line ∷ ps)

order-low : (low from : ℕ) {ps : List ItemPiece} → low ≤ from → InOrder from ps → InOrder low ps
order-low low from h no_item = no_item
order-low low from h (empty_item o) = empty_item (order-low low from h o)
order-low low from h (full_item x {line = line} g o) = full_item x (omega arith) o

last_above : (from : ℕ) (s : List PlacedByte) → AreRising from s → from ≤ last_line from s
last_above from [] r = omega arith
last_above from (x ∷ xs) r = let more : x.1 ≤ last_line x.1 xs = last_above x.1 xs r.1 in omega (arith, r.0)

abbrev WithinLines : (from to : ℕ) → List PlacedByte → Type 0
WithinLines from to [] = Unit {0}
WithinLines from to (x ∷ xs) = (from ≤ x.1) × (x.1 ≤ to)

within-low : (low from to : ℕ) (s : List PlacedByte) → low ≤ from → WithinLines from to s → WithinLines low to s
within-low low from to [] h w = tt
within-low low from to (x ∷ xs) h w = (omega (arith, w.0), w.1)

front_within : (from : ℕ) (s : List PlacedByte) → AreRising from s → WithinLines from (last_line from s) (without_front s)
front_within from [] r = tt
front_within from (x ∷ xs) r =
    elim (cases_Bool (is_white_space x.0)) [
      | inl w ↦ rw w (within-low from x.1 (last_line x.1 xs) (without_front xs) r.0 (front_within x.1 xs r.1))
      | inr v ↦ rw v (r.0, last_above x.1 xs r.1)
    ]

order-more : (from to : ℕ) (s : List PlacedByte) {ps : List ItemPiece} → from ≤ to → WithinLines from to s → InOrder to ps
    → InOrder from (item_piece (bytes s) (line_of s) ∷ ps)
order-more from to [] h w o = empty_item (order-low from to h o)
order-more from to (x ∷ xs) h w o = full_item x.0 w.0 (order-low x.1 to w.1 o)

pieces_in_order : (from : ℕ) (is : List (List PlacedByte)) → AllRising from is → InOrder from (map piece_of is)
pieces_in_order from [] r = no_item
pieces_in_order from (i ∷ is) r =
    order-more from (last_line from i) (without_front i) (last_above from i r.0) (front_within from i r.0) (pieces_in_order (last_line from i) is r.1)

pub block_in_order : (block : List ℕ) → InOrder 1 (map piece_of (block_items block))
block_in_order block = pieces_in_order 1 (block_items block) (block_rising block)

-- ---- kept lines

abbrev pub AreNumbered : ℕ → List KeptLine → Type 0
AreNumbered from [] = Unit {0}
AreNumbered from (k ∷ ks) = (from ≤ k.number) × AreNumbered k.number ks

pub numbered-low : (low from : ℕ) (ks : List KeptLine) → low ≤ from → AreNumbered from ks → AreNumbered low ks
numbered-low low from [] h n = tt
numbered-low low from (k ∷ ks) h n = (omega (arith, n.0), n.1)

kept_numbered : (number : ℕ) (lines : List (List ℕ)) → AreNumbered number (kept_from number lines)
kept_numbered number [] = tt
kept_numbered number (line ∷ lines) =
    let later = numbered-low number (number + 1) (kept_from (number + 1) lines) (omega arith) (kept_numbered (number + 1) lines) in
    elim (cases_Bool (is_kept line)) [ inl t ↦ rw t (omega arith, later) | inr f ↦ rw f later ]

pub lines_numbered : (block : List ℕ) → AreNumbered 1 (kept_lines block)
lines_numbered block = kept_numbered 1 (lines_of block)
