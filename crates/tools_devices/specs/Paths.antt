-- Where the entry of a terminal is (term(5), "Storage location").
use Rattle.ti_text.specs.Ascii as ascii
use Rattle.std.specs.Prelude.{ℕ, List, ◌∷◌, ◌++◌, take}

-- where the entry of a name is below a directory
abbrev pub path_of : List ℕ → List ℕ → List ℕ
path_of dir name = dir ++ ascii.slash ∷ take 1 name ++ ascii.slash ∷ name
