-- Whether an offset of a text is the start of a character.
use Rattle.std.proofs.Common.{◌≡◌, ◌<◌, ℕ, zero, suc, get_or, List, [], ◌∷◌, length, take, inl, inr, refl, arith}
use Rattle.std.specs.Prelude.{◌||◌, nat_le, nat_lt}
use Rattle.std.proofs.lemmas.Bool.{cases_lt, le-leb, le-ltb, lt-leb, lt-ltb}
use Rattle.ti_text.specs.Texts.{last_byte}
use Rattle.source_places.specs.Position.{is_start, units}
use Rattle.source_edits.specs.inside.Starting.{begins_character}

pub start_at : (before : ℕ) (text : List ℕ) (offset : ℕ) → offset < length text
    → begins_character (last_byte before (take offset text)) (get_or text offset 0) ≡ is_start before text offset
start_at before [] offset within = absurd (omega (arith, within))
start_at before (x ∷ xs) zero within = refl
start_at before (x ∷ xs) (suc offset) within = start_at x xs offset (omega (arith, within))

pub units_some : (byte : ℕ) → nat_lt 0 (units byte) ≡ (nat_lt byte 128 || nat_le 192 byte)
units_some byte =
    elim (cases_lt byte 128) [
      | inl low ↦ rw (lt-ltb byte 128 low) refl
      | inr high ↦ elim (cases_lt byte 192) [
        | inl low ↦ rw (le-ltb byte 128 high, lt-ltb byte 192 low, lt-leb 192 byte low) refl
        | inr higher ↦ elim (cases_lt byte 240) [
          | inl low ↦ rw (le-ltb byte 128 high, le-ltb byte 192 higher, lt-ltb byte 240 low, le-leb 192 byte higher) refl
          | inr most ↦ rw (le-ltb byte 128 high, le-ltb byte 192 higher, le-ltb byte 240 most, le-leb 192 byte higher) refl
        ]
      ]
    ]
