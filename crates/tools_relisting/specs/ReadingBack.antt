-- What is laid out as a listing is one block, and is read as what it lists (own).
use Rattle.std.specs.Prelude.{ℕ, List, All}
use Rattle.ti_source.specs.Cutting.{OneBlock}
use Rattle.ti_source.specs.Parsing.{reading_of_text}
use Rattle.ti_source.specs.Reading.{Said}
use Rattle.ti_list.specs.Items.{IsListing, CanBeListed, IsListable, IsReadAs}

-- A names field and items that can be listed, in any layout, are read as that field and those
-- items, without a fault.
abbrev pub PartsAreRead : Type 0
PartsAreRead =
    (field : List ℕ) (names : List (List ℕ)) (items : List Said) (text : List ℕ)
    → IsListable field names → All CanBeListed items → IsListing field items text → IsReadAs field names items (reading_of_text text)

-- A text that lays out a field and items is one block, which begins with the field and ends with a
-- newline.
abbrev pub PartsAreBlocks : Type 0
PartsAreBlocks =
    (field : List ℕ) (names : List (List ℕ)) (items : List Said) (text : List ℕ)
    → IsListable field names → All CanBeListed items → IsListing field items text → OneBlock text
