-- A detail as it is shown is ASCII.
use Rattle.std.proofs.Common.{◌<◌, ◌&&◌, ℕ, suc, zero, List, [], ◌∷◌, inl, inr, map, arith}
use Rattle.std.specs.Prelude.{nat_le}
use Rattle.std.specs.Str.{IsAscii}
use Rattle.std.proofs.lemmas.Bool.{and_parts, cases_Bool, leb-true}
use Rattle.base_meaning.specs.Report.{shown_byte, shown_detail}

ascii_byte : (byte : ℕ) → shown_byte byte < 128
ascii_byte byte =
    elim (cases_Bool (nat_le 33 byte && nat_le byte 126)) [
      | inl prints ↦ rw prints (let most = leb-true byte 126 (and_parts (nat_le 33 byte) (nat_le byte 126) prints).1 in omega (arith, most))
      | inr other ↦ rw other (omega arith)
    ]

ascii_bytes : (bytes : List ℕ) → IsAscii (map shown_byte bytes)
ascii_bytes [] i = omega arith
ascii_bytes (byte ∷ bytes) zero = ascii_byte byte
ascii_bytes (byte ∷ bytes) (suc i) = ascii_bytes bytes i

pub ascii_detail : (detail : List ℕ) → IsAscii (shown_detail detail)
ascii_detail [] zero = omega arith
ascii_detail [] (suc i) = omega arith
ascii_detail (byte ∷ bytes) i = ascii_bytes (byte ∷ bytes) i
