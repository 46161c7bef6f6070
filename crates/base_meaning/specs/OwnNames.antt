-- The names that a block owns (own): those by which its entry is found.
use Rattle.std.specs.Prelude.{ℕ, List, filter}
use Rattle.ti_source.specs.Reading.{Reading}
use Rattle.base_meaning.specs.Faults.{distinct}
use Rattle.base_meaning.specs.Owner.{is_owner}

-- those of the names that belong to the block at that position, each once
abbrev pub own_names : List Reading → ℕ → List (List ℕ) → List (List ℕ)
own_names blocks at names = filter (λ name. is_owner blocks name at) (distinct names)
