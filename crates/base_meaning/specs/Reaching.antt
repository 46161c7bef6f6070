-- Which names a block reaches (own): those that it uses, and those that the owner of a reached name
-- uses, through broken blocks too.
use Rattle.std.specs.Prelude.{ℕ, zero, suc, ◌≡◌, ◌⊎◌, List, [], ◌∷◌, length, Option, Some, None, Bool, false, ◌||◌}
use Rattle.ti_source.specs.Reading.{Reading, ReadItem, Said, said_import}
use Rattle.base_meaning.specs.Owner.{owner, owner_block, is_owner}

-- the name that an item uses
abbrev pub used_name : Said → Option (List ℕ)
used_name (said_import name) = Some name
used_name _ = None

-- one of the items uses the name
abbrev pub Uses : List ReadItem → List ℕ → Type 0
Uses [] name = ⊥
Uses (item ∷ items) name = (used_name item.said ≡ Some name) ⊎ Uses items name

-- from the name `from` the names `way` lead to the name `to`: each is used by the owner of the one
-- before it
abbrev pub IsUseWay : (List ℕ → Option Reading) → List ℕ → List (List ℕ) → List ℕ → Type 0
IsUseWay env from [] to = from ≡ to
IsUseWay env from (next ∷ way) to = ((block : Reading) × (env from ≡ Some block) × Uses block.items next) × IsUseWay env next way to

-- a block with these items reaches the name
abbrev pub Reaches : (List ℕ → Option Reading) → List ReadItem → List ℕ → Type 0
Reaches env items to = (from : List ℕ) × (way : List (List ℕ)) × Uses items from × IsUseWay env from way to

-- the owner of the name `from` is the block at `at`, or reaches a name that it owns
abbrev pub LeadsTo : List Reading → List ℕ → ℕ → Type 0
LeadsTo blocks from at = (way : List (List ℕ)) × (to : List ℕ) × IsUseWay (owner_block blocks) from way to × (owner blocks to ≡ Some at)

-- ---- whether a block reaches a name, computed

-- whether the name that an item uses, if it uses one, passes the test
abbrev pub use_passes : (List ℕ → Bool) → Option (List ℕ) → Bool
use_passes test None = false
use_passes test (Some name) = test name

-- whether one of the items' used names passes the test
abbrev pub any_use : (List ℕ → Bool) → List ReadItem → Bool
any_use test [] = false
any_use test (item ∷ items) = use_passes test (used_name item.said) || any_use test items

-- whether the block passes the test, if there is one
abbrev pub block_passes : (Reading → Bool) → Option Reading → Bool
block_passes test None = false
block_passes test (Some block) = test block

-- whether a way of fewer names than `steps` leads from the name to one that belongs to the block at
-- `at`
abbrev pub leads : List Reading → ℕ → List ℕ → ℕ → Bool
leads blocks zero from at = false
leads blocks (suc steps) from at =
    is_owner blocks from at || block_passes (λ block. any_use (λ next. leads blocks steps next at) block.items) (owner_block blocks from)

-- whether any way does: a way that comes to no block twice is no longer than the list
abbrev pub leads_to : List Reading → List ℕ → ℕ → Bool
leads_to blocks from at = leads blocks (suc (length blocks)) from at
