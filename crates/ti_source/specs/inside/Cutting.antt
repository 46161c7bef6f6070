-- Where the next head line of a text begins (own).
use Rattle.ti_source.specs.Cutting.{begins_head, front_of}
use Rattle.std.specs.Prelude.{ℕ, Bool, false, List, [], ◌∷◌}

-- whether a text begins as a head line does
abbrev pub begins_with_head : List ℕ → Bool
begins_with_head [] = false
begins_with_head (x ∷ xs) = begins_head x

-- a text up to the first head line that begins after its first byte
abbrev pub to_next_head : List ℕ → List ℕ
to_next_head [] = []
to_next_head (x ∷ xs) = x ∷ front_of x xs
