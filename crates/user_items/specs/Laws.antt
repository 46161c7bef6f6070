-- Laws of the reading of user-defined capabilities.
use Rattle.std.specs.Prelude.{◌≡◌, ℕ, ◌+◌, Bool, true, false, ◌&&◌, if◌then◌else◌, List, [], ◌∷◌, ◌++◌, map, flat_map, Option, Some, None}
use Rattle.std.specs.List.{list_any}
use Rattle.ti_text.specs.Texts.{HasNoNul}
use Rattle.ti_source.specs.declared.code.Code.{Code}
use Rattle.ti_source.specs.declared.code.Code.TheVariants as code
use Rattle.ti_source.specs.Reading.{ReadFault, ReadItem, Said, said_import}
use Rattle.ti_source.specs.Parsing.{reading_of_text}
use Rattle.ti_source.specs.Walking.{block_items}
use Rattle.user_items.specs.Names.{is_user_defined_name}
use Rattle.user_items.specs.Verdicts.{UserVerdict, user_accepted, imports}
use Rattle.user_items.specs.Reading.{ReadUserItem, UserBlock, UserJudged}
use Rattle.user_items.specs.Parsing.{ReadsUserItems, user_reading_of_text}
use Rattle.user_items.specs.inside.Computed.{judged_of}

-- each block has that reading, and no other
pub record BlocksHaveOneUserReading : Type 0 where
  pub has : (block : List ℕ) → ReadsUserItems block (user_reading_of_text block)
  pub only : (block : List ℕ) (reading : UserBlock) → ReadsUserItems block reading → reading ≡ user_reading_of_text block

-- a user-defined name has no NUL, so that one can end it
abbrev pub UserDefinedNamesHaveNoNul : Type 0
UserDefinedNamesHaveNoNul = (name : List ℕ) → is_user_defined_name name ≡ true → HasNoNul name

-- where an item is and its name
pub record NamedPlace : Type 0 where
  pub ordinal : ℕ
  pub line : ℕ
  pub name : List ℕ

-- whether a code is that of an unknown name
abbrev pub is_unknown : Code → Bool
is_unknown code.UnknownCapability = true
is_unknown _ = false

-- whether a fault with this code and detail is that of an unknown name which is user-defined
abbrev pub is_warning_with : Code → Option (List ℕ) → Bool
is_warning_with c None = false
is_warning_with c (Some name) = is_unknown c && is_user_defined_name name

-- whether a fault of a block is such a warning
abbrev pub is_local_warning : ReadFault → Bool
is_local_warning f = is_warning_with f.code f.detail

-- the place of a fault of a block, if it is that of an unknown name which is user-defined
abbrev pub warning_of : ReadFault → Option (List ℕ) → List NamedPlace
warning_of fault None = []
warning_of fault (Some name) =
    if is_unknown fault.code && is_user_defined_name name then record { ordinal = fault.ordinal; line = fault.line; name = name } ∷ [] else []

-- the place of a fault, as `warning_of` its detail
abbrev pub user_warning : ReadFault → List NamedPlace
user_warning fault = warning_of fault fault.detail

-- whether an item defines its name, and is not a use
abbrev pub defines : UserVerdict → Bool
defines (user_accepted (imports name)) = false
defines _ = true

-- the place of an item that defines its name
abbrev pub places_at : ℕ → Option UserJudged → List NamedPlace
places_at ordinal None = []
places_at ordinal (Some j) = if defines j.verdict then record { ordinal = ordinal; line = j.line; name = j.name } ∷ [] else []

-- the places of those of items in a row that define their names, of which the first has the place `ordinal`
abbrev pub places_from : ℕ → List (Option UserJudged) → List NamedPlace
places_from ordinal [] = []
places_from ordinal (j ∷ js) = places_at ordinal j ++ places_from (ordinal + 1) js

-- the faults of a block of unknown names that are user-defined are those of the items that define
-- them, each once and in order
abbrev pub WarningsAreOfDefiningItems : Type 0
WarningsAreOfDefiningItems = (block : List ℕ) → flat_map user_warning (reading_of_text block).faults ≡ places_from 0 (map judged_of (block_items block))

-- what an item with this place and line gives to user-defined capabilities, if it is a use
abbrev pub use_by : ℕ → ℕ → Said → List ReadUserItem
use_by ordinal line (said_import name) = record { ordinal = ordinal; line = line; said = imports name } ∷ []
use_by ordinal line said = []

-- what an item of a block gives to them, if it is a use
abbrev pub use_in : ReadItem → List ReadUserItem
use_in item = use_by item.ordinal item.line item.said

-- a block without such warnings has nothing of user-defined capabilities but its uses
abbrev pub BlocksWithoutWarningsHaveUsesAlone : Type 0
BlocksWithoutWarningsHaveUsesAlone = (block : List ℕ) → list_any is_local_warning (reading_of_text block).faults ≡ false
    → user_reading_of_text block ≡ record { items = flat_map use_in (reading_of_text block).items; faults = [] }
