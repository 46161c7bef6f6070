-- What an item says, as it is read (own): terminfo(5); X/Open Curses Issue 7, "Terminfo Source
-- Format".
use Rattle.std.specs.Prelude.{ℕ, ◌==◌, List, [], ◌∷◌, Option, None, Some, if◌then◌else◌, option_and_then}
use Rattle.std.specs.String.{string_bytes}
use Rattle.ti_source.specs.Parsing.{reading_of_text}
use Rattle.ti_source.specs.Reading.{ReadItem, Said, said_flag, said_number, said_text, said_cancel, said_import}
use Rattle.source_spans.specs.Touching.{ordinal_at}
use Rattle.source_strings.specs.Spelled.{spelled}
use Rattle.source_features.specs.declared.meanings.Meaning.{Meaning}
use Rattle.source_features.specs.declared.meanings.Meaning.TheVariants as meaning

-- what an item says of its capability, as plain data: nothing, if it is not accepted; a boolean
-- that is set, a number, a string as it is spelled, or that the capability is cancelled
pub data MeaningSeen : Type 0 where
  means_nothing : MeaningSeen
  means_set : MeaningSeen
  means_number : ℕ → MeaningSeen
  means_text : List ℕ → MeaningSeen
  means_cancelled : MeaningSeen

-- a meaning that holds its text in memory, as plain data
abbrev pub meaning_seen : Meaning → MeaningSeen
meaning_seen meaning.Nothing = means_nothing
meaning_seen meaning.Set = means_set
meaning_seen (meaning.Number number) = means_number number
meaning_seen (meaning.Text text) = means_text (string_bytes text)
meaning_seen meaning.Cancelled = means_cancelled

-- what the accepted item of that place among the items says, if it is accepted
abbrev pub said_at : ℕ → List ReadItem → Option Said
said_at ordinal [] = None
said_at ordinal (item ∷ items) = if item.ordinal == ordinal then Some item.said else said_at ordinal items

-- what that means
abbrev pub meaning_of : Option Said → MeaningSeen
meaning_of None = means_nothing
meaning_of (Some (said_flag c)) = means_set
meaning_of (Some (said_number c number)) = means_number number
meaning_of (Some (said_text c value)) = means_text (spelled value)
meaning_of (Some (said_cancel c)) = means_cancelled
meaning_of (Some (said_import name)) = means_nothing

-- what the item of that place says in a block
abbrev pub saying_of : List ℕ → ℕ → Option Said
saying_of block ordinal = said_at ordinal (reading_of_text block).items

-- what the item that an offset of a block is on means
abbrev pub meaning_at : List ℕ → ℕ → MeaningSeen
meaning_at block offset = meaning_of (option_and_then (saying_of block) (ordinal_at block offset))
