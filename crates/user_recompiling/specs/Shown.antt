-- Entries as they are shown that can be listed, of whatever they are made, and that their listings
-- compile back to them by `-x` (own).
use Rattle.ti_text.specs.Ascii as ascii
use Rattle.std.specs.Prelude.{◌≡◌, ◌≢◌, ℕ, ◌≤◌, true, List, [], ◌∷◌, All, length, map}
use Rattle.std.specs.List.{concat}
use Rattle.ti_source.specs.declared.parsing.Rule.{Rule}
use Rattle.ti_list.specs.declared.layout.Layout.{Layout}
use Rattle.ti_list.specs.RelativeSource.{first_name}
use Rattle.tools_relisting.specs.Entries.{IsSourceOf}
use Rattle.user_items.specs.Parsing.{user_reading_of_text}
use Rattle.user_extension.specs.Extension.{entry, entry_limit}
use Rattle.user_extension.specs.Reading.{said}
use Rattle.user_extension.specs.UserDefined.{Row}
use Rattle.user_listing.specs.Entries.{Extended}
use Rattle.user_listing.specs.Listing.{extended_listing}
use Rattle.user_listing.specs.RelativeSource.{extended_relative}
use Rattle.user_values.specs.Limit.{has_name, name_count, names_in}
use Rattle.user_compiling.specs.Rows.{AreRowsOf}
use Rattle.user_relisting.specs.ReadingBack.{CanBeListed, Listed, entries_of}
use Rattle.user_recompiling.specs.Entries.{CompilesTo, IsEntry, OwnTheirNames, with_others}

-- what is shown can be listed, and the bytes are its entry, within its limit
pub record IsShown (bytes : List ℕ) (shown : Extended) : Type 0 where
  pub can : CanBeListed shown
  pub rows : AreRowsOf (said shown.rows) can.rows
  pub is : entry shown.entry.names shown.entry.contents can.rows ≡ bytes
  pub within : length bytes ≤ entry_limit shown.entry.contents can.rows

-- a user-defined capability has one of these names
abbrev pub IsAmong : List (List ℕ) → Row → Type 0
IsAmong names row = has_name names row.0 ≡ true

-- its user-defined names are also among those of a source
pub record IsShownFrom (bytes : List ℕ) (shown : Extended) (texts : List (List ℕ)) : Type 0 where
  pub is : IsShown bytes shown
  pub names : All (IsAmong (names_in (map user_reading_of_text texts))) is.can.rows

-- an entry that `-x` makes of a source is shown so
abbrev pub EntriesAreShown : Type 0
EntriesAreShown = (bytes : List ℕ) (shown : Extended) → (made : IsEntry bytes shown) → IsShownFrom bytes shown made.texts

-- The listing of one that is shown so, in any layout, is a source of one block, which compiles to the
-- entry, byte for byte, in whatever source it is and by any rule.
abbrev pub ShownComeBack : Type 0
ShownComeBack =
    (rule : Rule) (bytes : List ℕ) (shown : Extended) (layout : Layout) (texts : List (List ℕ)) → IsShown bytes shown
    → IsSourceOf (extended_listing shown layout) (extended_listing shown layout ∷ []) × CompilesTo rule texts (extended_listing shown layout) bytes

-- It has no more user-defined names than that source.
abbrev pub ShownHaveNoMoreNames : Type 0
ShownHaveNoMoreNames =
    (bytes : List ℕ) (shown : Extended) (layout : Layout) (texts : List (List ℕ)) → IsShownFrom bytes shown texts
    → name_count (extended_listing shown layout ∷ []) (length (extended_listing shown layout ∷ [])) ≤ name_count texts (length texts)

-- one that others can use: no backslash is in its first name
pub record IsUsedShown (shown : Extended) : Type 0 where
  pub bytes : List ℕ
  pub is : IsShown bytes shown
  pub bare : All (λ byte. byte ≢ ascii.backslash) (first_name shown.entry.names)

-- The relative source of one, with the listings of those that it uses after it, each in any layout, is
-- a source of these blocks, of which the first compiles to the entry, byte for byte, by any rule.
abbrev pub ShownRelativeSource : Type 0
ShownRelativeSource =
    (rule : Rule) (bytes : List ℕ) (shown : Extended) (layout : Layout) (listed : List Listed)
    → IsShown bytes shown → All IsUsedShown (entries_of listed) → OwnTheirNames shown layout listed
    → IsSourceOf (concat (with_others shown layout listed)) (with_others shown layout listed)
    × CompilesTo rule (with_others shown layout listed) (extended_relative shown (entries_of listed) layout) bytes
