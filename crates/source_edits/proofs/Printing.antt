-- What is shown of bytes is ASCII.
use Rattle.std.proofs.Common.{◌<◌, ◌&&◌, ℕ, suc, zero, List, [], ◌∷◌, inl, inr, arith}
use Rattle.std.specs.Prelude.{nat_le}
use Rattle.std.specs.Str.{IsAscii}
use Rattle.std.proofs.lemmas.Bool.{and_parts, cases_Bool, leb-true}
use Rattle.source_edits.specs.Shown.{shown, shown_byte}

ascii_byte : (byte : ℕ) → shown_byte byte < 128
ascii_byte byte =
    elim (cases_Bool (nat_le 32 byte && nat_le byte 126)) [
      | inl prints ↦ rw prints (let most = leb-true byte 126 (and_parts (nat_le 32 byte) (nat_le byte 126) prints).1 in omega (arith, most))
      | inr other ↦ rw other (omega arith)
    ]

pub ascii_shown : (bytes : List ℕ) → IsAscii (shown bytes)
ascii_shown [] i = omega arith
ascii_shown (byte ∷ bytes) zero = ascii_byte byte
ascii_shown (byte ∷ bytes) (suc i) = ascii_shown bytes i
