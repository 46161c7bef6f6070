-- What a block has of an entry that it uses (terminfo(5), "Similar Terminals").
use Rattle.std.specs.Prelude.{◌≡◌, ℕ, Bool, true, false, List, ◌∷◌, ◌++◌, All, map, Some, slice_get}
use Rattle.std.specs.Str.{bytes_eq}
use Rattle.ti_caps.specs.Tables.{Capability, IsCapability, same_capability}
use Rattle.ti_source.specs.declared.parsing.Rule.{Rule}
use Rattle.ti_source.specs.Parsing.{reading_of_text}
use Rattle.ti_source.specs.Reading.{ReadItem, Said, said_flag, said_number, said_text, said_cancel, said_import}
use Rattle.ti_layout.specs.Laws.{without_cancel}
use Rattle.ti_layout.specs.Values.{Mention}
use Rattle.base_meaning.specs.Expansion as profile
use Rattle.base_meaning.specs.Expansion.{is_broken}
use Rattle.base_meaning.specs.Readings.{reading_by, readings_by}
use Rattle.ti_list.specs.declared.layout.Layout.{Layout}
use Rattle.user_items.specs.Parsing.{user_reading_of_text}
use Rattle.user_items.specs.Reading.{ReadUserItem}
use Rattle.user_items.specs.Verdicts.{UserSaid, says, imports}
use Rattle.user_extension.specs.Reading.{said}
use Rattle.user_listing.specs.Entries.{Extended}
use Rattle.user_listing.specs.Listing.{extended_listing}
use Rattle.user_values.specs.Expansion.{owner_text, user_value_by}
use Rattle.user_relisting.specs.ReadingBack.{HasListing}

-- whether an item can give a user-defined name something: it says something of it, or is a use
abbrev pub may_give : List ℕ → UserSaid → Bool
may_give name (says other content) = bytes_eq other name
may_give name (imports other) = true

-- whether an item can give a capability of the tables something
abbrev pub may_give_table : Capability → Said → Bool
may_give_table c (said_flag other) = same_capability other c
may_give_table c (said_number other n) = same_capability other c
may_give_table c (said_text other t) = same_capability other c
may_give_table c (said_cancel other) = same_capability other c
may_give_table c (said_import name) = true

-- one of these is the only one that can give something
pub record IsAlone {Item : Type 0} (gives : Item → Bool) (item : Item) (items : List Item) : Type 0 where
  pub before : List Item
  pub after : List Item
  pub whole : items ≡ before ++ item ∷ after
  pub none_before : All (λ (other : Item). gives other ≡ false) before
  pub none_after : All (λ (other : Item). gives other ≡ false) after

-- what a block says of user-defined names
abbrev pub user_said_in : List ℕ → List UserSaid
user_said_in text = map (λ (item : ReadUserItem). item.said) (user_reading_of_text text).items

-- what it says of the tables
abbrev pub table_said_in : List ℕ → List Said
table_said_in text = map (λ (item : ReadItem). item.said) (reading_of_text text).items

-- a block of the source, without errors of its own, uses a name that leads to the listing of an entry
pub record Uses (texts : List (List ℕ)) (at : ℕ) (used : List ℕ) (entry : Extended) : Type 0 where
  pub text : List ℕ
  pub layout : Layout
  pub stands : slice_get texts at ≡ Some text
  pub sound : is_broken (reading_of_text text) ≡ false
  pub listed : HasListing entry
  pub owned : owner_text texts used ≡ Some (extended_listing entry layout)

-- A block that uses the listing of an entry, and by no other item can have something of a user-defined
-- name, has the entry's value of it, by whatever rule the source is read.
abbrev pub UsersHaveTheEntry : Type 0
UsersHaveTheEntry =
    (rule : Rule) (texts : List (List ℕ)) (at : ℕ) (used : List ℕ) (entry : Extended) (name : List ℕ) → (uses : Uses texts at used entry)
    → IsAlone (may_give name) (imports used) (user_said_in uses.text) → user_value_by rule texts at name ≡ said entry.rows name

-- So it has of a capability of the tables, a cancel being nothing.
abbrev pub UsersHaveTheTables : Type 0
UsersHaveTheTables =
    (rule : Rule) (texts : List (List ℕ)) (at : ℕ) (used : List ℕ) (entry : Extended) (c : Capability) → (uses : Uses texts at used entry)
    → IsCapability c → IsAlone (may_give_table c) (said_import used) (table_said_in uses.text)
    → (mentions : List Mention) × (profile.expansion (readings_by rule texts) (reading_by rule uses.text) ≡ Some mentions)
    × (profile.values mentions c ≡ without_cancel (entry.entry.contents c))
