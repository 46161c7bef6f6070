-- Where items end, and what is read of one on a line.
use Rattle.std.proofs.Common.{◌≡◌, ℕ, true, false, List, [], ◌∷◌, ◌++◌, refl, ap}
use Rattle.ti_source.specs.Folding.{PlacedByte}
use Rattle.ti_source.specs.Items.{ItemPiece, bytes, item_piece, piece_of}
use Rattle.ti_source.specs.inside.Folding.{folding_of}
use Rattle.ti_source.specs.inside.Items.{after_field, on_line}
use Rattle.ti_source.specs.Walking.{block_items}
use Rattle.ti_source.proofs.ItemLaws.{BeginsVisible, has_items}
use Rattle.source_spans.specs.Parts.{with_first}
use Rattle.source_spans.proofs.Escaping.{Escape, cuts, escape_after, items_of, nothing, one_items}

-- the items of a block, byte by byte
pub items_computed : (block : List ℕ) → block_items block ≡ items_of nothing 44 (after_field (folding_of block))
items_computed block = one_items 44 (after_field (folding_of block)) (block_items block) (has_items 44 (after_field (folding_of block)))

-- no item ends in a text
abbrev pub Goes : Escape → ℕ → List ℕ → Type 0
Goes by before [] = Unit {0}
Goes by before (x ∷ xs) = (cuts by x ≡ false) × Goes (escape_after by before x) x xs

-- no item ends in a text, and a comma after it ends one
abbrev pub Ends : Escape → ℕ → List ℕ → Type 0
Ends by before [] = cuts by 44 ≡ true
Ends by before (x ∷ xs) = (cuts by x ≡ false) × Ends (escape_after by before x) x xs

pub one_item : (by : Escape) (before line : ℕ) (u : List ℕ) → Goes by before u → items_of by before (on_line line u) ≡ on_line line u ∷ []
one_item by before line [] g = refl
one_item by before line (x ∷ u) g = rw g.0 (ap (with_first (x, line)) (one_item (escape_after by before x) x line u g.1))

pub item_and_rest : (by : Escape) (before line : ℕ) (u : List ℕ) (rest : List PlacedByte) → Ends by before u
    → items_of by before (on_line line u ++ (44, line) ∷ rest) ≡ on_line line u ∷ items_of nothing 44 rest
item_and_rest by before line [] rest e = rw e refl
item_and_rest by before line (x ∷ u) rest e = rw e.0 (ap (with_first (x, line)) (item_and_rest (escape_after by before x) x line u rest e.1))

-- after a space as after a comma
pub goes_after_space : (u : List ℕ) → Goes nothing 44 u → Goes nothing 32 u
goes_after_space [] g = g
goes_after_space (x ∷ u) g = g

pub ends_after_space : (u : List ℕ) → Ends nothing 44 u → Ends nothing 32 u
ends_after_space [] e = e
ends_after_space (x ∷ u) e = e

-- an item of this text on a line
abbrev pub placed_piece : ℕ → List ℕ → ItemPiece
placed_piece line [] = item_piece [] 0
placed_piece line (x ∷ xs) = item_piece (x ∷ xs) line

pub bytes-on_line : (line : ℕ) (u : List ℕ) → bytes (on_line line u) ≡ u
bytes-on_line line [] = refl
bytes-on_line line (x ∷ u) = ap (λ (s : List ℕ). x ∷ s) (bytes-on_line line u)

pub piece_on_line : (line : ℕ) (u : List ℕ) → BeginsVisible u → piece_of (on_line line u) ≡ placed_piece line u
piece_on_line line [] v = refl
piece_on_line line (x ∷ u) v = rw v (ap (λ (s : List ℕ). item_piece (x ∷ s) line) (bytes-on_line line u))

pub piece_after_space : (line : ℕ) (u : List ℕ) → BeginsVisible u → piece_of ((32, line) ∷ on_line line u) ≡ placed_piece line u
piece_after_space line u v = piece_on_line line u v
