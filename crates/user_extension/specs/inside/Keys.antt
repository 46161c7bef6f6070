-- A number for each name, by which the order of most names is seen, and that most are no names of
-- the tables (own). What it does not show is found out by the bytes of the names.
use Rattle.std.specs.Prelude.{◌≡◌, ℕ, ◌+◌, ◌*◌, ◌/◌, ◌%◌, ◌^◌, ◌<◌, ◌≤◌, ◌==◌, ◌⊎◌, Bool, ◌||◌, List, length, slice_index, slice_index_or}
use Rattle.byteorder.specs.Endian.{big_number}
use Rattle.ti_text.specs.Ascii as ascii
use Rattle.user_items.specs.Names.{is_user_defined_byte}
use Rattle.user_extension.specs.declared.keys.TheConstants.{MARKS}

-- the first eight bytes of a name as one number, the first of them highest, with zeros after a
-- shorter name
abbrev pub key_of : List ℕ → ℕ
key_of name = big_number 8 name

-- where the bit of a key is: the twelve highest bits of its product with a constant
abbrev pub spot : ℕ → ℕ
spot key = key * 8388157054276905343 % 2 ^ 64 / 2 ^ 52

-- whether the bit at a spot is set
abbrev pub has_mark : List ℕ → ℕ → Bool
has_mark marks spot = slice_index_or marks (spot / 64) 0 / 2 ^ (spot % 64) % 2 == 1

-- whether the bit of a key is set
unfoldable pub is_marked : ℕ → Bool
is_marked key = has_mark MARKS (spot key)

-- the key of a name, which is of bytes
abbrev pub IsKey : ℕ → List ℕ → Type 0
IsKey key name = (key ≡ key_of name) × ((k : ℕ) → slice_index name k < 256)

-- the name at an offset of a table has no key: it is empty or has eight bytes or more, or fewer
-- than eight bytes are left from the offset on
abbrev pub HasNoKey : List ℕ → ℕ → List ℕ → Type 0
HasNoKey table offset name = (length name ≡ 0) ⊎ (8 ≤ length name) ⊎ (length table < offset + 8)

-- a byte of a user-defined name, or the NUL after one
abbrev pub is_plain_byte : ℕ → Bool
is_plain_byte b = b == ascii.nul || is_user_defined_byte b
