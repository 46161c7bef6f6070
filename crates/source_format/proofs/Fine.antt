-- What pieces are as they are read.
use Rattle.std.proofs.Common.{◌≡◌, ◌≢◌, ℕ, Bool, true, false, List, [], ◌∷◌}
use Rattle.ti_source.proofs.ItemLaws.{BeginsVisible}
use Rattle.source_spans.proofs.Escaping.{nothing}
use Rattle.source_format.specs.Pieces.{Piece, item, kept, is_kept}
use Rattle.source_format.proofs.Cut.{Ends, Goes}
use Rattle.source_format.proofs.Folded.{IsOneLine}

-- no piece is an item
abbrev pub HasNoItem : List Piece → Type 0
HasNoItem [] = Unit {0}
HasNoItem (item text ended ∷ ps) = ⊥
HasNoItem (kept line ∷ ps) = HasNoItem ps

-- an item is on one line, begins with no white space, and ends with its comma; no item comes after
-- one that no comma ends, which is not empty
pub data IsFine : (text : List ℕ) → Bool → List Piece → Type 0 where
  fine_ended : {text : List ℕ} {ps : List Piece} → IsOneLine text → BeginsVisible text → Ends nothing 44 text → IsFine text true ps
  fine_last : (x : ℕ) {xs : List ℕ} {ps : List Piece} → IsOneLine (x ∷ xs) → BeginsVisible (x ∷ xs) → Goes nothing 44 (x ∷ xs) → HasNoItem ps
      → IsFine (x ∷ xs) false ps

abbrev pub AreFine : List Piece → Type 0
AreFine [] = Unit {0}
AreFine (item text ended ∷ ps) = IsFine text ended ps × AreFine ps
AreFine (kept line ∷ ps) = IsOneLine line × (is_kept line ≡ true) × AreFine ps

-- the first item is not empty
abbrev pub BeginsFull : List Piece → Type 0
BeginsFull [] = Unit {0}
BeginsFull (item text ended ∷ ps) = text ≢ []
BeginsFull (kept line ∷ ps) = BeginsFull ps

-- no empty item is the first after a kept line
abbrev pub AreOrdered : List Piece → Type 0
AreOrdered [] = Unit {0}
AreOrdered (item text ended ∷ ps) = AreOrdered ps
AreOrdered (kept line ∷ ps) = BeginsFull ps × AreOrdered ps

-- the texts of the items, with the empty one after the last comma
abbrev pub texts_of : List Piece → List (List ℕ)
texts_of [] = [] ∷ []
texts_of (item text true ∷ ps) = text ∷ texts_of ps
texts_of (item text false ∷ ps) = text ∷ []
texts_of (kept line ∷ ps) = texts_of ps
