-- What is shown of bytes is ASCII.
use Rattle.std.proofs.Common.{◌<◌, ◌&&◌, ℕ, suc, zero, List, [], ◌∷◌, inl, inr, map, arith}
use Rattle.std.specs.Prelude.{nat_le}
use Rattle.std.specs.Str.{IsAscii}
use Rattle.std.proofs.lemmas.Bool.{and_parts, cases_Bool, leb-true}
use Rattle.source_strings.specs.Spelled.{printed}

ascii_byte : (byte : ℕ) → printed byte < 128
ascii_byte byte =
    elim (cases_Bool (nat_le 32 byte && nat_le byte 126)) [
      | inl prints ↦ rw prints (let most = leb-true byte 126 (and_parts (nat_le 32 byte) (nat_le byte 126) prints).1 in omega (arith, most))
      | inr other ↦ rw other (omega arith)
    ]

pub ascii_printed : (bytes : List ℕ) → IsAscii (map printed bytes)
ascii_printed [] i = omega arith
ascii_printed (byte ∷ bytes) zero = ascii_byte byte
ascii_printed (byte ∷ bytes) (suc i) = ascii_printed bytes i
