-- When a table of values is that of a block (own): it has what the block's mentions say, at some
-- depth of expansion; and how it is made, item by item.
use Rattle.std.specs.Prelude.{ℕ, ◌≡◌, List, Option, Some, None, option_and_then}
use Rattle.std.specs.Option.{option_or}
use Rattle.ti_caps.specs.Tables.{Capability, IsCapability}
use Rattle.ti_source.specs.Reading.{Reading, ReadItem, Said}
use Rattle.ti_layout.specs.Values.{Contents, Mention, contents}
use Rattle.base_meaning.specs.Owner.{owner_block}
use Rattle.base_meaning.specs.Expansion.{mentions_of, expand_items, expand, expansion}

-- a table has what the mentions say of each capability
abbrev pub IsTableOfMentions : Contents → List Mention → Type 0
IsTableOfMentions table mentions = (c : Capability) → IsCapability c → table c ≡ contents mentions c

-- a block has a table exactly if it resolves
abbrev pub HasTable : {T : Type 0} → (T → Contents) → List Reading → Reading → Option T → Type 0
HasTable contents blocks block None = expansion blocks block ≡ None
HasTable contents blocks block (Some table) = (mentions : List Mention) × (expansion blocks block ≡ Some mentions) × IsTableOfMentions (contents table) mentions

-- ---- item by item

-- the mentions of the block that owns a name, expanded to this depth
abbrev pub names_at : (List ℕ → Option Reading) → ℕ → List ℕ → Option (List Mention)
names_at env depth name = option_and_then (expand env depth) (env name)

-- a table that takes from the mentions what it did not have
abbrev pub AddsBehind : Contents → List Mention → Contents → Type 0
AddsBehind old mentions new = (c : Capability) → IsCapability c → new c ≡ option_or (old c) (contents mentions c)

-- the table of a block of the list: some depth expands the block, and the table says what the
-- mentions say
pub record IsTableOf (blocks : List Reading) (block : Reading) (table : Contents) : Type 0 where
  pub depth : ℕ
  pub mentions : List Mention
  pub expands : expand (owner_block blocks) depth block ≡ Some mentions
  pub is_table : IsTableOfMentions table mentions

-- the table that the first of these items make
pub record IsTableOfItems (blocks : List Reading) (items : List ReadItem) (table : Contents) : Type 0 where
  pub depth : ℕ
  pub mentions : List Mention
  pub expands : expand_items (names_at (owner_block blocks) depth) items ≡ Some mentions
  pub is_table : IsTableOfMentions table mentions

-- a table that takes from an item what it did not have
pub record AddsSaid (blocks : List Reading) (item : Said) (old new : Contents) : Type 0 where
  pub depth : ℕ
  pub mentions : List Mention
  pub expands : mentions_of (names_at (owner_block blocks) depth) item ≡ Some mentions
  pub adds : AddsBehind old mentions new
