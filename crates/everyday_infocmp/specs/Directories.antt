-- What `-D` prints (infocmp(1)).
use Rattle.std.specs.Prelude.{ℕ, List, [], ◌∷◌, ◌++◌}
use Rattle.std.specs.List.{flat_map}
use Rattle.ti_text.specs.Ascii as ascii

-- the directories, each on a line of its own
abbrev pub directories_text : List (List ℕ) → List ℕ
directories_text directories = flat_map (λ (directory : List ℕ). directory ++ ascii.newline ∷ []) directories
