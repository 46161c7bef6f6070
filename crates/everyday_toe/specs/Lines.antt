-- The lines of the table of toe(1).
use Rattle.std.specs.Prelude.{ℕ, ◌-◌, ◌++◌, List, codes, length, replicate}
use Rattle.ti_text.specs.Ascii.{byte_of}

-- the columns of directories that have no entry of a name: two dashes for each
abbrev pub dashes : ℕ → List ℕ
dashes count = replicate count (byte_of "-") ++ replicate count (byte_of "-")

-- a name in at least ten columns
abbrev pub padded : List ℕ → List ℕ
padded name = name ++ replicate (10 - length name) (byte_of " ")

-- the line of an entry
abbrev pub entry_line : List ℕ → List ℕ → List ℕ
entry_line name description = padded name ++ codes "\t" ++ description ++ codes "\n"

-- the heading of a directory
abbrev pub heading_line : List ℕ → List ℕ
heading_line path = codes "#\n#" ++ path ++ codes ":\n#\n"

-- the line that says which column is that of a directory, in which its arrow ends
abbrev pub arrow_line : ℕ → List ℕ → List ℕ
arrow_line column path = dashes column ++ codes "--> " ++ path ++ codes "\n"
