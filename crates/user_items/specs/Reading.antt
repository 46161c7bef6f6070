-- The items of a block that speak of user-defined capabilities, among all of its items (tic(1)).
use Rattle.std.specs.Prelude.{ℕ, ◌+◌, List, [], ◌∷◌, ◌++◌, map, Option, Some, None}
use Rattle.std.specs.Rc.{rc_slice_items}
use Rattle.ti_source.specs.Folding.{PlacedByte}
use Rattle.ti_source.specs.Items.{Statement, States, piece_of}
use Rattle.ti_layout.specs.Values.{content_of}
use Rattle.user_items.specs.Verdicts.{UserSaid, says, imports, UserVerdict, user_accepted, user_odd, user_refused, UserJudges}
use Rattle.user_items.specs.declared.reading.UserWhat.{UserWhat}
use Rattle.user_items.specs.declared.reading.UserWhat.TheVariants.{Says, Import}
use Rattle.user_items.specs.declared.reading.UserItem.{UserItem}
use Rattle.user_items.specs.declared.reading.UserFault.{UserFault}
use Rattle.user_items.specs.declared.reading.UserItems.{UserItems}
use Rattle.user_items.specs.declared.reading.UserCode.{UserCode}
use Rattle.user_items.specs.declared.reading.UserCode.TheVariants as code

-- ---- as plain data

-- an item: its place among those of the block, its line, and what it says
pub record ReadUserItem : Type 0 where
  pub ordinal : ℕ
  pub line : ℕ
  pub said : UserSaid

-- a fault of an item: the place and line of the item, what is wrong, and its name
pub record ReadUserFault : Type 0 where
  pub ordinal : ℕ
  pub line : ℕ
  pub code : UserCode
  pub name : List ℕ

-- a block as far as user-defined capabilities go
pub record UserBlock : Type 0 where
  pub items : List ReadUserItem
  pub faults : List ReadUserFault

-- what an item says
abbrev pub said_of : UserWhat → UserSaid
said_of (Says name value) = says (rc_slice_items name) (content_of value)
said_of (Import name) = imports (rc_slice_items name)

-- an item as plain data
abbrev pub user_item_of : UserItem → ReadUserItem
user_item_of i = record { ordinal = i.ordinal; line = i.line; said = said_of i.what }

-- a fault as plain data
abbrev pub user_fault_of : UserFault → ReadUserFault
user_fault_of f = record { ordinal = f.ordinal; line = f.line; code = f.code; name = rc_slice_items f.name }

-- what was read of a block, as plain data
abbrev pub user_reading_of : UserItems → UserBlock
user_reading_of read = record { items = map user_item_of read.items.items; faults = map user_fault_of read.faults.items }

-- ---- each item by itself

-- an item that is a use or whose name is user-defined: its line, the name as it is written, and the
-- verdict on it
pub record UserJudged : Type 0 where
  pub line : ℕ
  pub name : List ℕ
  pub verdict : UserVerdict

-- what comes of an item: nothing, if it states nothing or is of another name
pub data IsUserJudged : (item : List PlacedByte) → Option UserJudged → Type 0 where
  states_nothing : (item : List PlacedByte) → States (piece_of item).text None → IsUserJudged item None
  states_another : (item : List PlacedByte) (s : Statement) → States (piece_of item).text (Some s) → UserJudges s.name s.claim None → IsUserJudged item None
  states_user : (item : List PlacedByte) (s : Statement) (v : UserVerdict) → States (piece_of item).text (Some s) → UserJudges s.name s.claim (Some v)
      → IsUserJudged item (Some (record { line = (piece_of item).line; name = s.name; verdict = v }))

-- what comes of each of the items in a row
pub data AreUserJudged : (items : List (List PlacedByte)) → List (Option UserJudged) → Type 0 where
  no_item : AreUserJudged [] []
  item_and_rest : {item : List PlacedByte} {items : List (List PlacedByte)} {outcome : Option UserJudged} {outcomes : List (Option UserJudged)}
      → IsUserJudged item outcome → AreUserJudged items outcomes → AreUserJudged (item ∷ items) (outcome ∷ outcomes)

-- ---- the items and faults of a block

-- what is accepted of an item with this place, line and verdict
abbrev pub items_by : ℕ → ℕ → UserVerdict → List ReadUserItem
items_by ordinal line (user_accepted said) = record { ordinal = ordinal; line = line; said = said } ∷ []
items_by ordinal line (user_odd said) = record { ordinal = ordinal; line = line; said = said } ∷ []
items_by ordinal line user_refused = []

-- a fault of an item with this place, line and name
abbrev pub fault_with : ℕ → ℕ → List ℕ → UserCode → ReadUserFault
fault_with ordinal line name code = record { ordinal = ordinal; line = line; code = code; name = name }

-- the fault that a verdict gives, none if it accepts without an odd escape
abbrev pub faults_by : ℕ → ℕ → List ℕ → UserVerdict → List ReadUserFault
faults_by ordinal line name (user_accepted said) = []
faults_by ordinal line name (user_odd said) = fault_with ordinal line name code.UnknownEscape ∷ []
faults_by ordinal line name user_refused = fault_with ordinal line name code.BadUserDefined ∷ []

-- what is accepted of the item that is at a place
abbrev pub items_at : ℕ → Option UserJudged → List ReadUserItem
items_at ordinal None = []
items_at ordinal (Some j) = items_by ordinal j.line j.verdict

-- the fault of the item that is at a place
abbrev pub faults_at : ℕ → Option UserJudged → List ReadUserFault
faults_at ordinal None = []
faults_at ordinal (Some j) = faults_by ordinal j.line j.name j.verdict

-- what is accepted of items in a row, of which the first has the place `ordinal`
abbrev pub items_from : ℕ → List (Option UserJudged) → List ReadUserItem
items_from ordinal [] = []
items_from ordinal (j ∷ js) = items_at ordinal j ++ items_from (ordinal + 1) js

-- the faults of items in a row, of which the first has the place `ordinal`
abbrev pub faults_from : ℕ → List (Option UserJudged) → List ReadUserFault
faults_from ordinal [] = []
faults_from ordinal (j ∷ js) = faults_at ordinal j ++ faults_from (ordinal + 1) js

-- the reading that these outcomes of all items make
abbrev pub reading_by : List (Option UserJudged) → UserBlock
reading_by judged = record { items = items_from 0 judged; faults = faults_from 0 judged }
