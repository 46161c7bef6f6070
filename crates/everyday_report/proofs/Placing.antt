-- Where the faults of a source are.
use Rattle.std.proofs.Common.{◌≡◌, ℕ, ◌<◌, ◌≤◌, List, [], ◌∷◌, All, Option, Some, None, map, option_map, length, get_or, slice_get, refl, sym, ap, ◌∙◌, subst}
use Rattle.std.proofs.lemmas.List.Elements.{All-get_or, All-head}
use Rattle.std.proofs.lemmas.Option.{get_or_from_slice_get, same_Some, slice_get-map}
use Rattle.ti_source.specs.Cutting.{OneBlock}
use Rattle.ti_source.specs.Parsing.{reading_of_text}
use Rattle.ti_source.specs.Reading.{Reading}
use Rattle.base_meaning.specs.Owner.{readings}
use Rattle.user_compiling.specs.Faults.{block_of, fault_seen, line_of}
use Rattle.user_compiling.specs.Report.{IsExtendedPlaced}
use Rattle.user_compiling.specs.declared.fault.ExtendedFault.{ExtendedFault}
use Rattle.user_compiling.proofs.Lines.{All-map_item, placed_block, placed_line}

-- the block of the first fault is one of those
pub first_placed : (n : ℕ) (faults : List ExtendedFault) (fault : ExtendedFault) → Some fault ≡ slice_get faults 0
    → All (IsExtendedPlaced n) (map fault_seen faults) → block_of (fault_seen fault) < n
first_placed n [] fault is placed =
    let none : ◌≡◌ {A = Option ExtendedFault} (Some fault) None = is in
    absurd cc
first_placed n (x ∷ xs) fault is placed =
    let some : ◌≡◌ {A = Option ExtendedFault} (Some fault) (Some x) = is in
    let same : x ≡ fault = cc in
    subst (λ (f : ExtendedFault). block_of (fault_seen f) < n) same
    (placed_block n (fault_seen x) (All-head (IsExtendedPlaced n) (fault_seen x) (map fault_seen xs) placed))

-- the block of a fault is one of those, and it is on a line that a block can have
pub block_placed : (n : ℕ) (faults : List ExtendedFault) (i : ℕ) (fault : ExtendedFault) → i < length faults → fault ≡ get_or faults i fault
    → All (IsExtendedPlaced n) (map fault_seen faults) → block_of (fault_seen fault) < n
block_placed n faults i fault low is placed = placed_block n (fault_seen fault) (All-map_item (IsExtendedPlaced n) fault_seen faults i fault low is placed)

pub line_placed : (n : ℕ) (faults : List ExtendedFault) (i : ℕ) (fault : ExtendedFault) → i < length faults → fault ≡ get_or faults i fault
    → All (IsExtendedPlaced n) (map fault_seen faults) → (1 ≤ line_of (fault_seen fault)) × (line_of (fault_seen fault) ≤ 1048577)
line_placed n faults i fault low is placed = placed_line n (fault_seen fault) (All-map_item (IsExtendedPlaced n) fault_seen faults i fault low is placed)

-- a text of a database is one block
pub one_there : (texts : List (List ℕ)) (at : ℕ) (text : List ℕ) → at < length texts → All OneBlock texts → slice_get texts at ≡ Some text → OneBlock text
one_there texts at text low all stands = subst OneBlock (get_or_from_slice_get texts at text text stands) (All-get_or OneBlock texts at text low all)

-- what was read of the block with a text
pub read_there : {X : Type 0} (part : Reading → X) (texts : List (List ℕ)) (at : ℕ) (text : List ℕ) (found : X) → slice_get texts at ≡ Some text
    → option_map part (slice_get (readings texts) at) ≡ Some found → found ≡ part (reading_of_text text)
read_there part texts at text found is named =
    let there : slice_get (readings texts) at ≡ Some (reading_of_text text) = rw (slice_get-map reading_of_text texts at, is) refl in
    let same : Some (part (reading_of_text text)) ≡ Some found = sym (ap (option_map part) there) ∙ named in
    sym (same_Some (part (reading_of_text text)) found same)
