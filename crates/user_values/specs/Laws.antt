-- Laws of user-defined values.
use Rattle.std.specs.Prelude.{ℕ, ◌≡◌, List, is_some, Some, slice_get}
use Rattle.ti_layout.specs.Laws.{without_cancel}
use Rattle.user_values.specs.Tables.{TableSeen, said_at, IsTableAt, IsTableAtBy}
use Rattle.ti_source.specs.declared.parsing.Rule.{Rule}
use Rattle.ti_source.specs.Parsing.{reading_of_text}
use Rattle.base_meaning.specs.Owner.{readings}
use Rattle.base_meaning.specs.Expansion.{resolves}
use Rattle.user_values.specs.Expansion.{expansion, expansion_by, user_value, user_value_by}

-- a block has user-defined values exactly where it resolves
abbrev pub ValuesAreWhereResolved : Type 0
ValuesAreWhereResolved = (texts : List (List ℕ)) (text : List ℕ) → is_some (expansion texts text) ≡ resolves (readings texts) (reading_of_text text)

-- the table of a block that resolves has the value of each name there
abbrev pub TablesHaveValues : Type 0
TablesHaveValues =
    (texts : List (List ℕ)) (at : ℕ) (text : List ℕ) (table : TableSeen) (name : List ℕ) → slice_get texts at ≡ Some text → IsTableAt texts at (Some table)
    → without_cancel (said_at table name) ≡ user_value texts at name

-- the same by each rule
abbrev pub ValuesAreWhereResolvedByRule : Type 0
ValuesAreWhereResolvedByRule =
    (rule : Rule) (texts : List (List ℕ)) (text : List ℕ) → is_some (expansion_by rule texts text) ≡ resolves (readings texts) (reading_of_text text)

-- so has the table of a block by each rule
abbrev pub TablesHaveValuesByRule : Type 0
TablesHaveValuesByRule =
    (rule : Rule) (texts : List (List ℕ)) (at : ℕ) (text : List ℕ) (table : TableSeen) (name : List ℕ) → slice_get texts at ≡ Some text
    → IsTableAtBy rule texts at (Some table) → without_cancel (said_at table name) ≡ user_value_by rule texts at name
