-- Compiled entries of sources with user-defined capabilities as they are shown, and that their
-- listings compile back to them by `-x` (own).
use Rattle.ti_text.specs.Ascii as ascii
use Rattle.std.specs.Prelude.{◌≡◌, ◌≢◌, ◌↔◌, ℕ, suc, ◌≤◌, List, [], ◌∷◌, All, Some, length, map, slice_get}
use Rattle.std.specs.List.{concat}
use Rattle.ti_spelling.specs.Spelling.{AreBytes}
use Rattle.ti_source.specs.Cutting.{last_byte, Cut, OneBlock}
use Rattle.ti_source.specs.declared.parsing.Rule.{Rule}
use Rattle.ti_layout.specs.Reading.{Reads}
use Rattle.base_meaning.specs.Compiled.{EntryState, written}
use Rattle.base_meaning.specs.Owner.{owner, readings}
use Rattle.ti_list.specs.declared.layout.Layout.{Layout}
use Rattle.ti_list.specs.RelativeSource.{first_name}
use Rattle.tools_relisting.specs.Entries.{IsSourceOf}
use Rattle.user_extension.specs.Reading.{rows_after}
use Rattle.user_listing.specs.Entries.{Extended}
use Rattle.user_listing.specs.Listing.{extended_listing}
use Rattle.user_listing.specs.RelativeSource.{extended_relative}
use Rattle.user_values.specs.Limit.{name_count}
use Rattle.user_compiling.specs.Entries.{AreStatesBy, IsStateBy}
use Rattle.user_relisting.specs.ReadingBack.{Listed, entries_of}

-- the bytes are the entry of a block of some source by `-x`, which is read by some rule, and whose
-- blocks are bytes and are blocks by themselves; they are read as this names field, these contents
-- and these user-defined capabilities
pub record IsEntry (bytes : List ℕ) (shown : Extended) : Type 0 where
  pub rule : Rule
  pub texts : List (List ℕ)
  pub at : ℕ
  pub text : List ℕ
  pub blocks : All OneBlock texts
  pub of_bytes : All AreBytes texts
  pub stands : slice_get texts at ≡ Some text
  pub is : IsStateBy rule texts text (written bytes)
  pub reads : Reads bytes shown.entry.names shown.entry.contents
  pub rows : shown.rows ≡ rows_after bytes

-- a compiled entry that others can use: no backslash is in its first name
pub record IsUsedEntry (shown : Extended) : Type 0 where
  pub bytes : List ℕ
  pub entry : IsEntry bytes shown
  pub bare : All (λ byte. byte ≢ ascii.backslash) (first_name shown.entry.names)

-- Each entry that `-x` makes of a source, by whatever rule it is read, is a compiled entry as above:
-- a source is bytes, and is empty or ends with a newline.
abbrev pub EntriesOfSources : Type 0
EntriesOfSources =
    (rule : Rule) (source preface : List ℕ) (texts : List (List ℕ)) (states : List EntryState) (at : ℕ) (bytes : List ℕ) (shown : Extended)
    → AreBytes source → last_byte ascii.newline source ≡ ascii.newline → Cut source preface texts → AreStatesBy rule texts states
    → slice_get states at ≡ Some (written bytes)
    → Reads bytes shown.entry.names shown.entry.contents → shown.rows ≡ rows_after bytes
    → IsEntry bytes shown

-- by `-x` a block of the list, which is read by a rule, compiles to these bytes, and to nothing else
abbrev pub CompilesTo : Rule → List (List ℕ) → List ℕ → List ℕ → Type 0
CompilesTo rule texts text bytes = (state : EntryState) → IsStateBy rule texts text state ↔ (state ≡ written bytes)

-- The listing of a compiled entry, in any layout, is a source of one block, which compiles to the
-- entry, byte for byte, by any rule: that of the entry may be another one.
abbrev pub Relisting : Type 0
Relisting =
    (rule : Rule) (bytes : List ℕ) (shown : Extended) (layout : Layout) → IsEntry bytes shown
    → IsSourceOf (extended_listing shown layout) (extended_listing shown layout ∷ [])
    × CompilesTo rule (extended_listing shown layout ∷ []) (extended_listing shown layout) bytes

-- It compiles to the entry in whatever source it is, by any rule.
abbrev pub RelistingAnywhere : Type 0
RelistingAnywhere =
    (rule : Rule) (bytes : List ℕ) (shown : Extended) (layout : Layout) (texts : List (List ℕ)) → IsEntry bytes shown
    → CompilesTo rule texts (extended_listing shown layout) bytes

-- It has no more user-defined names than the source of which the entry is, so that it is not refused
-- for them.
abbrev pub ListingsHaveNoMoreNames : Type 0
ListingsHaveNoMoreNames =
    (bytes : List ℕ) (shown : Extended) (layout : Layout) (made : IsEntry bytes shown)
    → name_count (extended_listing shown layout ∷ []) (length (extended_listing shown layout ∷ [])) ≤ name_count made.texts (length made.texts)

-- an entry, and what it is shown as
abbrev pub ShownEntry : Type 0
ShownEntry = List ℕ × Extended

-- the listings of entries, one after the other
abbrev pub listings : List ShownEntry → Layout → List (List ℕ)
listings entries layout = map (λ (entry : ShownEntry). extended_listing entry.1 layout) entries

-- The listings of compiled entries, one after the other, are a source of as many blocks, each of
-- which compiles to its entry, by any rule and whatever names they share.
abbrev pub Relistings : Type 0
Relistings =
    (rule : Rule) (entries : List ShownEntry) (layout : Layout) → All (λ (entry : ShownEntry). IsEntry entry.0 entry.1) entries
    → IsSourceOf (concat (listings entries layout)) (listings entries layout)
    × All (λ (entry : ShownEntry). CompilesTo rule (listings entries layout) (extended_listing entry.1 layout) entry.0) entries

-- ---- relative source

-- the relative source of an entry and the listings of the others, each in a layout of its own and
-- the text of a block
abbrev pub with_others : Extended → Layout → List Listed → List (List ℕ)
with_others entry layout listed = extended_relative entry (entries_of listed) layout ∷ map (λ (one : Listed). extended_listing one.0 one.1) listed

-- the first name of each of the others belongs to its listing, which follows the relative source of
-- the entry
abbrev pub OwnTheirNames : Extended → Layout → List Listed → Type 0
OwnTheirNames entry layout listed =
    (i : ℕ) (one : Listed) → slice_get listed i ≡ Some one → owner (readings (with_others entry layout listed)) (first_name one.0.entry.names) ≡ Some (suc i)

-- The relative source of a compiled entry, with the listings of the entries that it uses after it,
-- each in any layout, is a source of these blocks, of which the first compiles to the entry, byte
-- for byte, by any rule.
abbrev pub RelativeSource : Type 0
RelativeSource =
    (rule : Rule) (bytes : List ℕ) (shown : Extended) (layout : Layout) (listed : List Listed)
    → IsEntry bytes shown → All IsUsedEntry (entries_of listed) → OwnTheirNames shown layout listed
    → IsSourceOf (concat (with_others shown layout listed)) (with_others shown layout listed)
    × CompilesTo rule (with_others shown layout listed) (extended_relative shown (entries_of listed) layout) bytes
