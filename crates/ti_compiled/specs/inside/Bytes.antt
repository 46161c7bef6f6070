-- A part of bytes changed where it is (own).
use Rattle.std.specs.Prelude.{◌≡◌, ℕ, ◌+◌, ◌-◌, ◌==◌, nat_lt, if◌then◌else◌, List, [], ◌∷◌, ◌++◌, length, take, drop, replicate, Option, Some, None}
use Rattle.ti_text.specs.Ascii as ascii
use Rattle.ti_layout.specs.Layout.{absent_mark}
use Rattle.ti_layout.specs.declared.layout.Format.TheVariants.{Legacy}

-- a number of bytes put in at an offset
abbrev pub with_bytes_in : List ℕ → ℕ → ℕ → ℕ → List ℕ
with_bytes_in bytes at count fill = take at bytes ++ replicate count fill ++ drop at bytes

-- a number of bytes taken out at an offset
abbrev pub with_bytes_out : List ℕ → ℕ → ℕ → List ℕ
with_bytes_out bytes at count = take at bytes ++ drop (at + count) bytes

-- cut to a length, or filled up to it
abbrev pub with_length : List ℕ → ℕ → ℕ → List ℕ
with_length part size fill = take size part ++ replicate (size - length part) fill

-- the part of a size at an offset is changed, and nothing else
abbrev pub Replaces : List ℕ → List ℕ → ℕ → ℕ → (List ℕ → List ℕ) → Type 0
Replaces old new at size change = (p m r : List ℕ) → old ≡ p ++ (m ++ r) → length p ≡ at → length m ≡ size → new ≡ p ++ (change m ++ r)

-- an offset of a string after another one, when bytes are taken out and put in there; the offset of
-- an absent string does not change
abbrev pub offset_after : ℕ → ℕ → ℕ → ℕ
offset_after removed added offset = if offset == absent_mark Legacy then absent_mark Legacy else offset + added - removed

-- the offsets from an index on are moved
abbrev pub moved_later : (ℕ → ℕ) → ℕ → ℕ → ℕ → ℕ → ℕ
moved_later f from removed added j = if nat_lt j from then f j else offset_after removed added (f j)

-- a string with the NUL that ends it, or nothing
abbrev pub ended_text : Option (List ℕ) → List ℕ
ended_text None = []
ended_text (Some text) = text ++ ascii.nul ∷ []
