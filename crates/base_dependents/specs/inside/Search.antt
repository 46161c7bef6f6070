-- How far a search for the blocks that depend on an edit has come, and what each of its steps adds
-- (own).
use Rattle.std.specs.Prelude.{ℕ, ◌≡◌, ◌<◌, ◌⊎◌, ◌++◌, List, Option, Some, None, slice_get}
use Rattle.ti_text.specs.Lists.{Has}
use Rattle.base_meaning.specs.Exchange.{Exchange}
use Rattle.base_meaning.specs.Dependents.{IsDependent}
use Rattle.base_slots.specs.declared.slots.Slots.{Slots}
use Rattle.base_slots.specs.Slots.{ids_of, users_of, reading_at, StandsAt, IsOwnerId}
use Rattle.base_dependents.specs.Dependents.{IsExchangeOf}

-- ids were put after others: only such as pass, and all that pass are there
pub record AddsPassing (IsAdded : ℕ → Type 0) (old new : List ℕ) : Type 0 where
  pub added : List ℕ
  pub behind : new ≡ old ++ added
  pub only : (id : ℕ) → Has added id → IsAdded id
  pub all : (id : ℕ) → IsAdded id → Has new id

-- the block with the id uses the name
abbrev pub IsUserOf : Slots → List ℕ → ℕ → Type 0
IsUserOf slots name id = Has (users_of slots name) id

-- it uses one of the names
abbrev pub IsUserOfOne : Slots → List (List ℕ) → ℕ → Type 0
IsUserOfOne slots names id = (i : ℕ) × (name : List ℕ) × (slice_get names i ≡ Some name) × IsUserOf slots name id

-- it uses one of the names that belong to the block `holder`
abbrev pub IsUserOfOwned : Slots → ℕ → List (List ℕ) → ℕ → Type 0
IsUserOfOwned slots holder names id =
    (i : ℕ) × (name : List ℕ) × (slice_get names i ≡ Some name)
    × IsOwnerId slots name holder × IsUserOf slots name id

-- it is the block put in, or uses one of its names
abbrev pub IsPutOrUser : Slots → ℕ → ℕ → Type 0
IsPutOrUser slots put id = (id ≡ put) ⊎ IsUserOfOne slots (reading_at slots put).names id

-- the same if a block was put in; nothing if none was
abbrev pub IsPutOrUserIn : Slots → Option ℕ → ℕ → Type 0
IsPutOrUserIn slots None id = ⊥
IsPutOrUserIn slots (Some put) id = IsPutOrUser slots put id

-- it depends on the edit, whatever the exchange was
abbrev pub Depends : Slots → Option ℕ → List (List ℕ) → ℕ → Type 0
Depends slots put out id =
    (exchange : Exchange) → IsExchangeOf slots put out exchange → (at : ℕ) × StandsAt slots at id × IsDependent exchange at

-- what was found depends on the edit, and has the block put in, the users of touched names, and the
-- users of the names that the first `next` of the blocks found own
pub record IsSearch (slots : Slots) (put : Option ℕ) (out : List (List ℕ)) (found : List ℕ) (next : ℕ) : Type 0 where
  pub within : (id : ℕ) → Has found id → Has (ids_of slots) id
  pub sound : (id : ℕ) → Has found id → Depends slots put out id
  pub has_put : (id : ℕ) → IsPutOrUserIn slots put id → Has found id
  pub has_out : (id : ℕ) → IsUserOfOne slots out id → Has found id
  pub closed : (i holder : ℕ) → i < next → slice_get found i ≡ Some holder → (id : ℕ)
      → IsUserOfOwned slots holder (reading_at slots holder).names id → Has found id
