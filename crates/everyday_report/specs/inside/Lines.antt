-- Lines by their parts.
use Rattle.std.specs.Prelude.{ℕ, List, [], ◌∷◌, codes}
use Rattle.std.specs.List.{concat}

-- a line of these parts
abbrev pub said_by : List ℕ → List ℕ → List ℕ → List ℕ → List ℕ → List ℕ → List ℕ → List ℕ
said_by file line column severity subject sentence code =
    concat (file ∷ codes ":" ∷ line ∷ codes ":" ∷ column ∷ severity ∷ subject ∷ sentence ∷ codes " [" ∷ code ∷ codes "]\n" ∷ [])
