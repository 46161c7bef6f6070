-- A step in an item (own).
use Rattle.std.specs.Prelude.{ℕ, ◌≡◌, ◌-◌, List, ◌∷◌, ◌++◌, drop, take}
use Rattle.ti_text.specs.Ascii as ascii
use Rattle.std.specs.List.{slice_index_or}
use Rattle.ti_source.specs.Folding.{PlacedByte}
use Rattle.ti_source.specs.Items.{AreItems}

-- an item continues for so many bytes at the front of a text, which is just after the byte `before`
abbrev pub GoesOn : List PlacedByte → ℕ → ℕ → Type 0
GoesOn text before size =
    (d : PlacedByte) (item : List PlacedByte) (items : List (List PlacedByte)) → AreItems (slice_index_or text (size - 1) d).0 (drop size text) (item ∷ items)
    → AreItems before text ((take size text ++ item) ∷ items)

-- an item ends at the front of a text: there is a comma
abbrev pub EndsHere : List PlacedByte → Type 0
EndsHere text = (rest : List PlacedByte) × (line : ℕ) × (text ≡ (ascii.comma, line) ∷ rest)
