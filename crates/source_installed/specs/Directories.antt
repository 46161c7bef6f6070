-- Where the file of an entry is (term(5), "Storage location").
use Rattle.std.specs.Prelude.{ℕ, ◌/◌, ◌%◌, ◌==◌, ◌&&◌, Bool, false, List, [], ◌∷◌}
use Rattle.tools_directories.specs.Paths.{hex_digit}

-- whether an entry of a name that begins with that byte is looked for in a directory that is called
-- so: by the letter, or by its code in two hexadecimal digits
abbrev pub is_directory_by : List ℕ → ℕ → Bool
is_directory_by (letter ∷ []) first = letter == first
is_directory_by (high ∷ low ∷ []) first = high == hex_digit (first / 16) && low == hex_digit (first % 16)
is_directory_by _ first = false

-- whether an entry of that name is looked for in a directory that is called so
abbrev pub is_directory_of : List ℕ → List ℕ → Bool
is_directory_of directory [] = false
is_directory_of directory (first ∷ rest) = is_directory_by directory first
