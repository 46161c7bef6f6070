-- What a walk over the items of a block takes (own).
use Rattle.std.specs.Prelude.{◌≡◌, ℕ, List, [], ◌∷◌, Option, Some, None}
use Rattle.ti_source.specs.Folding.{PlacedByte}
use Rattle.ti_source.specs.Items.{ItemPiece, piece_of}
use Rattle.ti_text.specs.Ascii as ascii
use Rattle.ti_source.specs.declared.items.Escape.TheVariants as escape
use Rattle.ti_source.specs.inside.Folding.{folding_of}
use Rattle.ti_source.specs.inside.Items.{after_field, items_of}

-- the items after the names field of a block
abbrev pub block_items : List ℕ → List (List PlacedByte)
block_items block = items_of escape.Nothing ascii.comma (after_field (folding_of block))

-- the first of the items was taken, with its text and line; nothing, if there is none
abbrev pub TakesNext : List (List PlacedByte) → Option ItemPiece → List (List PlacedByte) → Type 0
TakesNext old None new = (old ≡ []) × (new ≡ [])
TakesNext old (Some piece) new = (item : List PlacedByte) × (old ≡ item ∷ new) × (piece_of item ≡ piece)
