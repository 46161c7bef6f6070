-- What a search finds of the blocks that depend on an edit (own).
use Rattle.std.specs.Prelude.{ℕ, ◌≡◌, ◌<◌, ◌↔◌, List, length, Option, Some, slice_get, Contains}
use Rattle.ti_text.specs.Lists.{AreDistinct}
use Rattle.ti_source.specs.Reading.{ReadItem}
use Rattle.base_meaning.specs.Reaching.{used_name}
use Rattle.base_meaning.specs.Exchange.{Exchange, IsExchange, new_list}
use Rattle.base_meaning.specs.Dependents.{lookup_names_of, IsPutAt, IsDependent}
use Rattle.base_meaning.specs.UseLaws.{AreFound}
use Rattle.base_components.specs.Graph.{Rows}
use Rattle.base_slots.specs.declared.slots.Slots.{Slots}
use Rattle.base_slots.specs.Slots.{ids_of, blocks_of, reading_at, StandsAt}
pub use Rattle.base_slots.specs.Slots.{IsOwnerId}

-- the exchange by which the list came about: the block put in has the id `put`, the block taken out
-- the names `out`
pub record IsExchangeOf (slots : Slots) (put : Option ℕ) (out : List (List ℕ)) (exchange : Exchange) : Type 0 where
  pub fits : IsExchange exchange
  pub new : new_list exchange ≡ blocks_of slots
  pub out_names : lookup_names_of exchange.out ≡ out
  pub put_id : (at id : ℕ) → StandsAt slots at id → IsPutAt exchange.put at ↔ (put ≡ Some id)

-- these are the blocks that depend on it, each once, by their ids and their positions; with each
-- block they have its users
pub record AreDependentIds (slots : Slots) (put : Option ℕ) (out : List (List ℕ)) (ids positions : List ℕ) : Type 0 where
  pub as_many : length positions ≡ length ids
  pub stands : (i id at : ℕ) → slice_get ids i ≡ Some id → slice_get positions i ≡ Some at → StandsAt slots at id
  pub once : AreDistinct ids
  pub dependents : (exchange : Exchange) → IsExchangeOf slots put out exchange → (at : ℕ) → Contains positions at ↔ IsDependent exchange at
  pub closed : AreFound (blocks_of slots) positions

-- these are all blocks of the list, by their ids and their positions, in its order
pub record AreAllIds (slots : Slots) (ids positions : List ℕ) : Type 0 where
  pub listed : ids ≡ (ids_of slots)
  pub as_many : length positions ≡ length ids
  pub placed : (i : ℕ) → i < length ids → slice_get positions i ≡ Some i

-- the edge of an item leads to the place among the ids of the owner of the name that it uses, and
-- nowhere if there is none
abbrev pub IsEdgeOf : Slots → List ℕ → ReadItem → Option ℕ → Type 0
IsEdgeOf slots ids item edge =
    (place : ℕ) → (edge ≡ Some place)
    ↔ ((name : List ℕ) × (id : ℕ) × (used_name item.said ≡ Some name) × IsOwnerId slots name id × (slice_get ids place ≡ Some id))

-- a row has an edge for each item of its block
pub record IsEdgeRowOf (slots : Slots) (ids : List ℕ) (items : List ReadItem) (row : List (Option ℕ)) : Type 0 where
  pub as_many : length row ≡ length items
  pub edges : (k : ℕ) (item : ReadItem) (edge : Option ℕ) → slice_get items k ≡ Some item → slice_get row k ≡ Some edge → IsEdgeOf slots ids item edge

-- a row for each of the ids
pub record IsGraphOfUses (slots : Slots) (ids : List ℕ) (graph : Rows) : Type 0 where
  pub as_many : length graph ≡ length ids
  pub rows : (i id : ℕ) (row : List (Option ℕ)) → slice_get ids i ≡ Some id → slice_get graph i ≡ Some row
      → IsEdgeRowOf slots ids (reading_at slots id).items row
