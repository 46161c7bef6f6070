-- What a walk over two tables knows of where it is (own).
use Rattle.std.specs.Prelude.{◌≡◌, ℕ, ◌<◌, ◌≤◌, List, length}
use Rattle.ti_layout.specs.declared.merging.Turn.{Turn}
use Rattle.ti_layout.specs.declared.merging.Turn.TheVariants.{First, Second, Both}
use Rattle.ti_layout.specs.Values.{Mention, rank_at}

-- nothing is left of either table
abbrev pub IsPastBoth : List Mention → ℕ → List Mention → ℕ → Type 0
IsPastBoth fs i ss j = (length fs ≤ i) × (length ss ≤ j)

-- what is left of one begins before what is left of the other, or both begin with the same
-- capability
abbrev pub TurnIs : List Mention → ℕ → List Mention → ℕ → Turn → Type 0
TurnIs fs i ss j First = (i < length fs) × (j < length ss → rank_at fs i < rank_at ss j)
TurnIs fs i ss j Second = (j < length ss) × (i < length fs → rank_at ss j < rank_at fs i)
TurnIs fs i ss j Both = (i < length fs) × (j < length ss) × (rank_at fs i ≡ rank_at ss j)
