-- An edit of a list of blocks as an exchange (own): at most one block is taken out and at most one
-- put in, and the others remain in their order. An insertion, a replacement, a removal and a move
-- are cases of it.
use Rattle.std.specs.Prelude.{ℕ, zero, suc, ◌≡◌, ◌≤◌, List, length, insert, remove, slice_get, Option, Some, None, option_map}
use Rattle.ti_source.specs.declared.parsing.Rule.{Rule}
use Rattle.ti_source.specs.declared.parsing.Rule.TheVariants.{Leftmost}
use Rattle.ti_source.specs.Reading.{Reading}
use Rattle.base_meaning.specs.Readings.{reading_by, readings_by}
use Rattle.base_meaning.specs.Edits.{Change, insertion, replacement, removal, relocation, IsInPlace, list_after}

-- a block and its position
pub record PlacedBlock : Type 0 where
  pub at : ℕ
  pub block : Reading

-- the blocks that remain, the block taken out with its position in the old list, and the block put
-- in with its position in the new one
pub record Exchange : Type 0 where
  pub rest : List Reading
  pub out : Option PlacedBlock
  pub put : Option PlacedBlock

-- the list with the block put in, if there is one
abbrev pub with_block : List Reading → Option PlacedBlock → List Reading
with_block rest None = rest
with_block rest (Some placed) = insert rest placed.at placed.block

-- the position of the block is one of the list, or its end
abbrev pub HasPlace : List Reading → Option PlacedBlock → Type 0
HasPlace rest None = Unit {0}
HasPlace rest (Some placed) = placed.at ≤ length rest

-- both positions are there
pub record IsExchange (exchange : Exchange) : Type 0 where
  pub out : HasPlace exchange.rest exchange.out
  pub put : HasPlace exchange.rest exchange.put

-- the list before the edit
abbrev pub old_list : Exchange → List Reading
old_list exchange = with_block exchange.rest exchange.out

-- the list after the edit
abbrev pub new_list : Exchange → List Reading
new_list exchange = with_block exchange.rest exchange.put

-- the new position of a block at the position `at`, once another block was put in at the first
-- position
abbrev pub position_behind : ℕ → ℕ → ℕ
position_behind zero at = suc at
position_behind (suc place) zero = zero
position_behind (suc place) (suc at) = suc (position_behind place at)

-- the new position of a block that remains, once a block was put in, if one is
abbrev pub shifted_position : Option PlacedBlock → ℕ → ℕ
shifted_position None at = at
shifted_position (Some placed) at = position_behind placed.at at

-- the block at one position, said to be at another, if there is one
abbrev pub block_from : List Reading → ℕ → ℕ → Option PlacedBlock
block_from blocks from to = option_map (λ block. record { at = to; block = block }) (slice_get blocks from)

-- the exchange that an edit makes of the blocks of a source that is read by a rule, given by their
-- texts: a replacement and a move take a block out and put one in
abbrev pub exchange_by : Rule → List (List ℕ) → Change → Exchange
exchange_by rule texts (insertion at text) =
    record { rest = readings_by rule texts; out = None; put = Some (record { at = at; block = reading_by rule text }) }
exchange_by rule texts (replacement at text) = record {
  rest = remove (readings_by rule texts) at;
  out = block_from (readings_by rule texts) at at;
  put = Some (record { at = at; block = reading_by rule text });
}
exchange_by rule texts (removal at) = record { rest = remove (readings_by rule texts) at; out = block_from (readings_by rule texts) at at; put = None }
exchange_by rule texts (relocation from to) = record {
  rest = remove (readings_by rule texts) from;
  out = block_from (readings_by rule texts) from from;
  put = block_from (readings_by rule texts) from to;
}

-- the same of a source that is read by the rule `Leftmost`
abbrev pub exchange_of : List (List ℕ) → Change → Exchange
exchange_of texts change = exchange_by Leftmost texts change

-- the exchange leads from the blocks of one source to those of the other
pub record LeadsOn (rule : Rule) (exchange : Exchange) (texts next : List (List ℕ)) : Type 0 where
  pub fits : IsExchange exchange
  pub old : old_list exchange ≡ readings_by rule texts
  pub new : new_list exchange ≡ readings_by rule next

-- each edit whose positions are there is an exchange, by whatever rule the source is read
abbrev pub EditsAreExchanges : Type 0
EditsAreExchanges = (rule : Rule) (texts : List (List ℕ)) (change : Change) → IsInPlace texts change
    → LeadsOn rule (exchange_by rule texts change) texts (list_after texts change)
