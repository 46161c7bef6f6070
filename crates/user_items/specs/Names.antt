-- Which names are user-defined (tic(1), user_caps(5)).
use Rattle.std.specs.Prelude.{ℕ, Bool, not, ◌||◌, ◌&&◌, ◌==◌, nat_le, List, length, codes, is_none}
use Rattle.std.specs.List.{list_all}
use Rattle.std.specs.Str.{bytes_eq}
use Rattle.ti_text.specs.Ascii.{byte_of}
use Rattle.ti_caps.specs.Tables.{capability_named}

-- whether a byte is in a range
abbrev pub is_from_to : ℕ → ℕ → ℕ → Bool
is_from_to first last b = nat_le first b && nat_le b last

-- a byte of a user-defined name: a letter, a digit or one of four others
abbrev pub is_user_defined_byte : ℕ → Bool
is_user_defined_byte b =
    is_from_to (byte_of "a") (byte_of "z") b || is_from_to (byte_of "A") (byte_of "Z") b || is_from_to (byte_of "0") (byte_of "9") b
    || b == byte_of "%" || b == byte_of "&" || b == byte_of "*" || b == byte_of "!"

-- a user-defined name: one or more such bytes, neither `use` nor the name of a capability
unfoldable pub is_user_defined_name : List ℕ → Bool
is_user_defined_name name =
    not (length name == 0) && (list_all is_user_defined_byte name && (not (bytes_eq name (codes "use")) && is_none (capability_named name)))
