-- What a view shows (own): the names of the entry, and what it holds of each capability.
use Rattle.std.specs.Prelude.{ℕ, Bool, true, false, List, Option, Some, None}
use Rattle.ti_layout.specs.declared.view.View.{View}
use Rattle.ti_layout.specs.declared.layout.Format.TheVariants.{Legacy}
use Rattle.ti_layout.specs.Reading.{contents_of, numbers_in}
use Rattle.ti_layout.specs.Values.{Content, content_true, content_number, content_text, Contents}

-- the names field, without its NUL
abbrev pub names_of : View → List ℕ
names_of v = v.names.now

-- what it holds of each capability
abbrev pub view_contents : View → Contents
view_contents v = contents_of v.format v.flags.now (numbers_in v.format v.numbers.now) (numbers_in Legacy v.offsets.now) v.strings.now

-- an entry: its names field, and what it has of each capability
pub record Entry : Type 0 where
  pub names : List ℕ
  pub contents : Contents

-- the entry that a view shows
abbrev pub entry_seen : View → Entry
entry_seen view = record { names = names_of view; contents = view_contents view }

-- whether a boolean is set
abbrev pub shown_flag : Option Content → Bool
shown_flag (Some content_true) = true
shown_flag _ = false

-- the value of a number
abbrev pub shown_number : Option Content → Option ℕ
shown_number (Some (content_number n)) = Some n
shown_number _ = None

-- the value of a string
abbrev pub shown_text : Option Content → Option (List ℕ)
shown_text (Some (content_text bytes)) = Some bytes
shown_text _ = None
