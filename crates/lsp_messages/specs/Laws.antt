-- What a repair of a body exchanges (RFC 8259, section 8.2; own).
use Rattle.std.specs.Prelude.{◌≡◌, ℕ, false, List, flat_map}
use Rattle.lsp_messages.specs.Bodies.{repaired}
use Rattle.lsp_messages.specs.Pieces.{ArePiecesOf, Piece, has_half, replaced}

-- Each body is pieces.
abbrev pub BodiesAreInPieces : Type 0
BodiesAreInPieces = (body : List ℕ) → (pieces : List Piece) × ArePiecesOf pieces body

-- A repaired body is its pieces with U+FFFD in place of each half that is alone; all else stays byte for
-- byte.
abbrev pub RepairExchangesHalves : Type 0
RepairExchangesHalves = (body : List ℕ) (pieces : List Piece) → ArePiecesOf pieces body → repaired body ≡ flat_map replaced pieces

-- No half is alone in a repaired body.
abbrev pub NoHalfIsLeft : Type 0
NoHalfIsLeft = (body : List ℕ) → (pieces : List Piece) × ArePiecesOf pieces (repaired body) × (has_half pieces ≡ false)

-- A body in which no half is alone stays as it is.
abbrev pub WholeBodiesStay : Type 0
WholeBodiesStay = (body : List ℕ) (pieces : List Piece) → ArePiecesOf pieces body → has_half pieces ≡ false → repaired body ≡ body
