-- A number for each name, by which the table of names is searched (own). A look-up compares the
-- name that it finds, so it matters only that the numbers of the table rise.
use Rattle.std.specs.Prelude.{ℕ, zero, suc, ◌+◌, ◌*◌, ◌%◌, ◌^◌, List, slice_index_or}

-- the given number of bytes of a name as one number, the first of them highest, with zeros after a
-- shorter name
abbrev pub key_up_to : ℕ → List ℕ → ℕ
key_up_to zero name = 0
key_up_to (suc n) name = (key_up_to n name * 256 % 2 ^ 64 + slice_index_or name n 0) % 2 ^ 64

-- the first eight bytes of a name as one number
unfoldable pub key_of : List ℕ → ℕ
key_of name = key_up_to 8 name
