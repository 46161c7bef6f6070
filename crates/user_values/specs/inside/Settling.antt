-- What is known while a table is made.
use Rattle.std.specs.Prelude.{ℕ, ◌≡◌, List, Option, Some, slice_get}
use Rattle.ti_source.specs.declared.parsing.Rule.{Rule}
use Rattle.base_meaning.specs.Owner.{owner, readings}
use Rattle.user_items.specs.Verdicts.{imports}
use Rattle.user_items.specs.Reading.{ReadUserItem}
use Rattle.user_values.specs.Expansion.{UserMention, first_said, expand_items, block_mentions}
use Rattle.user_values.specs.Tables.{Said, TableSeen, IsUserTableBy, names_by, said_at}

-- the owner of a name has its table
pub record OwnerIsDone (rule : Rule) (texts : List (List ℕ)) (tables : List (Option TableSeen)) (name : List ℕ) : Type 0 where
  pub at : ℕ
  pub text : List ℕ
  pub table : TableSeen
  pub owned : owner (readings texts) name ≡ Some at
  pub stands : slice_get texts at ≡ Some text
  pub made : slice_get tables at ≡ Some (Some table)
  pub is : IsUserTableBy rule texts text (said_at table)

-- the owners of all names that items use have theirs
abbrev pub OwnersAreDone : Rule → List (List ℕ) → List (Option TableSeen) → List ReadUserItem → Type 0
OwnersAreDone rule texts tables items =
    (k : ℕ) (item : ReadUserItem) (name : List ℕ) → slice_get items k ≡ Some item → item.said ≡ imports name → OwnerIsDone rule texts tables name

-- a table says what items say, one after the other
pub record IsTableOfItems (rule : Rule) (texts : List (List ℕ)) (items : List ReadUserItem) (said : Said) : Type 0 where
  pub mentions : List UserMention
  pub expands_to : expand_items (names_by rule texts) items ≡ Some mentions
  pub is : (name : List ℕ) → said name ≡ first_said mentions name

-- a table says what the items of a block say by the rule
pub record IsTableOfBlock (rule : Rule) (texts : List (List ℕ)) (items : List ReadUserItem) (said : Said) : Type 0 where
  pub mentions : List UserMention
  pub expands_to : block_mentions rule (names_by rule texts) items ≡ Some mentions
  pub is : (name : List ℕ) → said name ≡ first_said mentions name
