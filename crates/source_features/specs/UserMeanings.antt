-- What an item of a user-defined name says, as it is read (own): tic(1), user_caps(5).
use Rattle.std.specs.Prelude.{ℕ, ◌==◌, List, [], ◌∷◌, Option, None, Some, if◌then◌else◌, option_and_then}
use Rattle.ti_layout.specs.Values.{Content, content_cancelled, content_number, content_text, content_true}
use Rattle.user_items.specs.Parsing.{user_reading_of_text}
use Rattle.user_items.specs.Reading.{ReadUserItem}
use Rattle.user_items.specs.Verdicts.{UserSaid, imports, says}
use Rattle.source_spans.specs.Touching.{ordinal_at}
use Rattle.source_features.specs.Meanings.{MeaningSeen, means_cancelled, means_nothing, means_number, means_set, means_text}
use Rattle.source_strings.specs.Spelled.{spelled}

-- what the accepted item of that place among the items says, if it is accepted
abbrev pub user_said_at : ℕ → List ReadUserItem → Option UserSaid
user_said_at ordinal [] = None
user_said_at ordinal (item ∷ items) = if item.ordinal == ordinal then Some item.said else user_said_at ordinal items

-- what a value means
abbrev pub content_meaning : Content → MeaningSeen
content_meaning content_true = means_set
content_meaning (content_number number) = means_number number
content_meaning (content_text value) = means_text (spelled value)
content_meaning content_cancelled = means_cancelled

-- what is said of a user-defined name, as it is meant: nothing, if the item is not accepted
abbrev pub user_meaning_of : Option UserSaid → MeaningSeen
user_meaning_of None = means_nothing
user_meaning_of (Some (says name content)) = content_meaning content
user_meaning_of (Some (imports name)) = means_nothing

-- what the item of that place says of a user-defined name in a block
abbrev pub user_saying_of : List ℕ → ℕ → Option UserSaid
user_saying_of block ordinal = user_said_at ordinal (user_reading_of_text block).items

-- what the item that an offset of a block is on says of a user-defined name
abbrev pub user_meaning_at : List ℕ → ℕ → MeaningSeen
user_meaning_at block offset = user_meaning_of (option_and_then (user_saying_of block) (ordinal_at block offset))
