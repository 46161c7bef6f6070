-- An entry with its user-defined capabilities, as it is shown (own).
use Rattle.std.specs.Prelude.{List, map}
use Rattle.ti_layout.specs.View.{Entry, entry_seen}
use Rattle.user_extension.specs.Reading.{ReadRow}
use Rattle.user_extension.specs.View.{read_rows}
use Rattle.user_listing.specs.declared.entry.ExtendedEntry.{ExtendedEntry}

-- an entry, and the rows of the extension after it: user-defined names, each with what it has
pub record Extended : Type 0 where
  pub entry : Entry
  pub rows : List ReadRow

-- an entry in memory, as it is shown
abbrev pub extended_seen : ExtendedEntry → Extended
extended_seen e = record { entry = entry_seen e.view; rows = read_rows e.extension }

-- entries in memory, as they are shown
abbrev pub all_seen : List ExtendedEntry → List Extended
all_seen entries = map (λ e. extended_seen e) entries

-- the entries without what is user-defined
abbrev pub entries_in : List Extended → List Entry
entries_in entries = map (λ (e : Extended). e.entry) entries
