-- The files that may have the entry of a name (term(5), "Storage location": directories are named by
-- a letter, or, on systems whose file names have no case, by its code in hexadecimal).
use Rattle.std.specs.Prelude.{ℕ, ◌+◌, ◌-◌, ◌/◌, ◌%◌, nat_lt, if◌then◌else◌, List, [], ◌∷◌, ◌++◌, map, slice_index}
use Rattle.ti_text.specs.Ascii as ascii
use Rattle.tools_devices.specs.Paths.{path_of}

-- the hexadecimal digit of that value, in lower case
abbrev pub hex_digit : ℕ → ℕ
hex_digit n = if nat_lt n 10 then ascii.digit_0 + n else ascii.byte_of "a" + (n - 10)

-- a byte as two hexadecimal digits
abbrev pub hex_of : ℕ → List ℕ
hex_of byte = hex_digit (byte / 16) ∷ hex_digit (byte % 16) ∷ []

-- where the entry of a name is below a directory that names its directories in hexadecimal
abbrev pub hexadecimal_path_of : List ℕ → List ℕ → List ℕ
hexadecimal_path_of directory name = directory ++ ascii.slash ∷ hex_of (slice_index name 0) ++ ascii.slash ∷ name

-- the files below directories named by a letter, one below each of the directories
abbrev pub letter_paths_of : List ℕ → List (List ℕ) → List (List ℕ)
letter_paths_of name directories = map (λ directory. path_of directory name) directories

-- the files below directories named in hexadecimal, likewise
abbrev pub hexadecimal_paths_of : List ℕ → List (List ℕ) → List (List ℕ)
hexadecimal_paths_of name directories = map (λ directory. hexadecimal_path_of directory name) directories

-- the files that may have the entry, in order: by the letter in all directories, and only then in
-- hexadecimal, so that what ncurses finds on Debian, where it reads none of these, is found first
abbrev pub paths_of : List ℕ → List (List ℕ) → List (List ℕ)
paths_of name directories = letter_paths_of name directories ++ hexadecimal_paths_of name directories
