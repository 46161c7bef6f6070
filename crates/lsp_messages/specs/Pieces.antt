-- The pieces of a body, from its front to its end (RFC 8259, sections 7 and 8.2): the escapes of both
-- halves of a pair of UTF-16 units, the escape of a half that is alone, any other escape, and a byte.
use Rattle.std.specs.Prelude.{◌≡◌, ◌≢◌, ◌⊎◌, ℕ, Bool, true, false, List, [], ◌∷◌, ◌++◌, codes, length}
use Rattle.std.specs.List.{list_any}
use Rattle.lsp_messages.specs.Bodies.{is_alone, is_pair}

-- a piece, with its bytes
pub data Piece : Type 0 where
  pair : List ℕ → Piece
  half : List ℕ → Piece
  escape : List ℕ → Piece
  byte : ℕ → Piece

-- the bytes of a piece
abbrev pub written : Piece → List ℕ
written (pair bytes) = bytes
written (half bytes) = bytes
written (escape bytes) = bytes
written (byte one) = one ∷ []

-- the piece is the first of a text that begins with its bytes: `\uD800\uDC00`, `\uD800`, a backslash
-- and the byte that it takes, or a byte that is no backslash, except at the end of the text
abbrev pub IsFirstOf : List ℕ → Piece → Type 0
IsFirstOf text (pair bytes) = (is_pair text ≡ true) × (length bytes ≡ 12)
IsFirstOf text (half bytes) = (is_alone text ≡ true) × (length bytes ≡ 6)
IsFirstOf text (escape bytes) = (is_pair text ≡ false) × (is_alone text ≡ false) × ((taken : ℕ) × (bytes ≡ 92 ∷ taken ∷ []))
IsFirstOf text (byte one) = (one ≢ 92) ⊎ (text ≡ one ∷ [])

-- a text is these pieces
abbrev pub ArePiecesOf : List Piece → List ℕ → Type 0
ArePiecesOf [] text = text ≡ []
ArePiecesOf (piece ∷ pieces) text = (rest : List ℕ) × (text ≡ written piece ++ rest) × IsFirstOf text piece × ArePiecesOf pieces rest

-- what is read in place of a piece: of a half that is alone U+FFFD, of any other the piece itself
abbrev pub replaced : Piece → List ℕ
replaced (half bytes) = codes "\\ufffd"
replaced piece = written piece

-- whether a piece is a half that is alone
abbrev pub is_half : Piece → Bool
is_half (half bytes) = true
is_half piece = false

-- whether one of these is
abbrev pub has_half : List Piece → Bool
has_half pieces = list_any is_half pieces
