-- What is known of every block as far as user-defined capabilities go, for those who build on it
-- (own).
use Rattle.std.specs.Prelude.{◌≡◌, ℕ, ◌≤◌, true, List, All}
use Rattle.ti_text.specs.Limits.{number_max}
use Rattle.ti_text.specs.Texts.{HasNoNul}
use Rattle.ti_source.specs.Cutting.{OneBlock}
use Rattle.ti_source.specs.Sound.{IsLineOf}
use Rattle.ti_layout.specs.Values.{Content, content_true, content_number, content_text, content_cancelled}
use Rattle.user_items.specs.Names.{is_user_defined_name}
use Rattle.user_items.specs.Verdicts.{UserSaid, says, imports}
use Rattle.user_items.specs.Reading.{UserBlock, ReadUserItem, ReadUserFault}
use Rattle.user_items.specs.Parsing.{user_reading_of_text}

-- a value that an entry can hold: a number within the limit, a text without NUL
abbrev pub IsSoundValue : Content → Type 0
IsSoundValue content_true = Unit {0}
IsSoundValue (content_number n) = n ≤ number_max
IsSoundValue (content_text text) = HasNoNul text
IsSoundValue content_cancelled = Unit {0}

-- what an item says is of a user-defined name, with a value that an entry can hold
abbrev pub IsSoundItem : UserSaid → Type 0
IsSoundItem (says name content) = (is_user_defined_name name ≡ true) × IsSoundValue content
IsSoundItem (imports name) = Unit {0}

-- what is read of a block is sound: what its items say, the names of its faults, and its lines
pub record IsSoundReading (block : List ℕ) (reading : UserBlock) : Type 0 where
  pub items : All (λ (i : ReadUserItem). IsSoundItem i.said) reading.items
  pub faults : All (λ (f : ReadUserFault). is_user_defined_name f.name ≡ true) reading.faults
  pub item_lines : All (λ (i : ReadUserItem). IsLineOf block i.line) reading.items
  pub fault_lines : All (λ (f : ReadUserFault). IsLineOf block f.line) reading.faults

-- what is read of every block is sound
abbrev pub EachUserReadingIsSound : Type 0
EachUserReadingIsSound = (block : List ℕ) → OneBlock block → IsSoundReading block (user_reading_of_text block)
