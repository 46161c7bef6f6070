-- What a parsed block says, as plain data (own): a name or a text is its bytes, wherever they are
-- in memory.
use Rattle.std.specs.Prelude.{ℕ, List, map, Option, option_map}
use Rattle.std.specs.Rc.{rc_slice_items}
use Rattle.ti_caps.specs.Tables.{Capability}
use Rattle.ti_source.specs.declared.code.Code.{Code}
use Rattle.ti_source.specs.declared.parsing.What.{What}
use Rattle.ti_source.specs.declared.parsing.What.TheVariants.{Flag, Number, Text, Cancel, Import}
use Rattle.ti_source.specs.declared.parsing.Item.{Item}
use Rattle.ti_source.specs.declared.parsing.Local.{Local}
use Rattle.ti_source.specs.declared.parsing.Parsed.{Parsed}
use Rattle.ti_source.specs.declared.parsing.Rule.{Rule}

-- what an accepted item says: a boolean, a number or a string, that a capability is cancelled, or
-- that the items of another entry come here
pub data Said : Type 0 where
  said_flag : Capability → Said
  said_number : Capability → ℕ → Said
  said_text : Capability → List ℕ → Said
  said_cancel : Capability → Said
  said_import : List ℕ → Said

-- an accepted item: its place among the items, from 0, and its line in the block, from 1
pub record ReadItem : Type 0 where
  pub ordinal : ℕ
  pub line : ℕ
  pub said : Said

-- a fault of a block by itself
pub record ReadFault : Type 0 where
  pub ordinal : ℕ
  pub line : ℕ
  pub code : Code
  pub detail : Option (List ℕ)

-- a block as it is read: the rule by which its values count, the names field, the lookup names, the
-- accepted items and the faults, each in order
pub record Reading : Type 0 where
  pub rule : Rule
  pub field : List ℕ
  pub names : List (List ℕ)
  pub items : List ReadItem
  pub faults : List ReadFault

-- what an item in memory says, as plain data
abbrev pub said_of : What → Said
said_of (Flag c) = said_flag c
said_of (Number c n) = said_number c n
said_of (Text c text) = said_text c (rc_slice_items text)
said_of (Cancel c) = said_cancel c
said_of (Import name) = said_import (rc_slice_items name)

-- an accepted item in memory, as plain data
abbrev pub item_of : Item → ReadItem
item_of i = record { ordinal = i.ordinal; line = i.line; said = said_of i.what }

-- a fault in memory, as plain data
abbrev pub fault_of : Local → ReadFault
fault_of f = record { ordinal = f.ordinal; line = f.line; code = f.code; detail = option_map rc_slice_items f.detail }

-- a parsed block in memory, as plain data
abbrev pub reading_of : Parsed → Reading
reading_of p = record {
  rule = p.rule;
  field = p.field.items;
  names = map rc_slice_items p.names.items;
  items = map item_of p.items.items;
  faults = map fault_of p.faults.items;
}
