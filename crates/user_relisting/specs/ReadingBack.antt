-- What is read of the listing of an entry with user-defined capabilities (own).
use Rattle.std.specs.Prelude.{◌≡◌, ◌≢◌, ℕ, ◌<◌, true, if◌then◌else◌, List, [], ◌∷◌, ◌++◌, All, map, length, Option, Some, None, slice_get}
use Rattle.std.specs.Option.{option_or}
use Rattle.std.specs.Str.{bytes_eq}
use Rattle.std.specs.List.{flat_map}
use Rattle.ti_caps.specs.declared.capability.Kind.{Kind}
use Rattle.ti_caps.specs.declared.capability.Kind.TheVariants.{Flag, Number, Text}
use Rattle.ti_caps.specs.Tables.{Capability, IsCapability}
use Rattle.ti_source.specs.declared.parsing.Rule.{Rule}
use Rattle.base_meaning.specs.Readings.{reading_by, readings_by}
use Rattle.base_meaning.specs.Expansion as profile
use Rattle.ti_layout.specs.Values.{Content, content_cancelled, contents, Mention}
use Rattle.ti_layout.specs.Laws.{without_cancel}
use Rattle.ti_layout.specs.Reading.{Reads}
use Rattle.ti_spelling.specs.Spelling.{AreBytes}
use Rattle.ti_layout.specs.Image.{image, ImageFits}
use Rattle.base_meaning.specs.Compiled.{compiled_by}
use Rattle.ti_list.specs.Items.{IsListable}
use Rattle.ti_list.specs.RelativeSource.{first_name}
use Rattle.ti_list.specs.declared.layout.Layout.{Layout}
use Rattle.tools_relisting.specs.Relisting.{CanHaveAll, IsUsableName}
use Rattle.user_items.specs.Names.{is_user_defined_name}
use Rattle.user_items.specs.Verdicts.{UserSaid, says, imports}
use Rattle.user_items.specs.Parsing.{user_reading_of_text}
use Rattle.user_extension.specs.UserDefined.{AreUserDefined, Row}
use Rattle.user_extension.specs.Reading.{EndsWell, ReadRow, rows_after, said}
use Rattle.user_extension.specs.Laws.{as_read}
use Rattle.user_listing.specs.Entries.{Extended}
use Rattle.user_listing.specs.Names.{names_among}
use Rattle.user_listing.specs.Listing.{extended_listing}
use Rattle.user_listing.specs.RelativeSource.{extended_relative, first_said, user_difference}
use Rattle.user_values.specs.Expansion.{UserMention, first_said as mentioned, expansion_by, owner_text}
use Rattle.user_values.specs.Tables.{IsUserTableBy}
use Rattle.user_relisting.specs.Items.{IsUserReadAs, IsWritable}

-- user-defined capabilities of a source: what an entry may have, in bytes
pub record AreOfSource (rows : List Row) : Type 0 where
  pub user_defined : AreUserDefined rows
  pub writable : All (λ (row : Row). IsWritable row.1) rows

-- The listing of an entry that has these user-defined capabilities, in any layout, is read as
-- these, without a fault.
abbrev pub ListingsAreRead : Type 0
ListingsAreRead =
    (entry : Extended) (names : List (List ℕ)) (rows : List Row) (layout : Layout) → IsListable entry.entry.names names → CanHaveAll entry.entry.contents
    → entry.rows ≡ as_read rows → AreOfSource rows
    → IsUserReadAs (map (λ (row : Row). says row.0 row.1) rows) (user_reading_of_text (extended_listing entry layout))

-- In whatever source it is and by whatever rule that is read, the listing of such an entry compiles
-- without user-defined capabilities to the image of what the tables have, if that is within its
-- limit.
abbrev pub ListingsCompileByTheProfile : Type 0
ListingsCompileByTheProfile =
    (rule : Rule) (entry : Extended) (names : List (List ℕ)) (rows : List Row) (layout : Layout) → IsListable entry.entry.names names
    → CanHaveAll entry.entry.contents → entry.rows ≡ as_read rows → AreOfSource rows → ImageFits entry.entry.names entry.entry.contents
    → (texts : List (List ℕ)) (at : ℕ) → slice_get texts at ≡ Some (extended_listing entry layout)
    → compiled_by rule texts at ≡ Some (image entry.entry.names entry.entry.contents)

-- ---- relative source

-- what is said about a name, if something is
abbrev pub said_if : List ℕ → Option Content → List UserSaid
said_if name None = []
said_if name (Some content) = says name content ∷ []

-- what a relative source says of the user-defined names of a kind: of each that differs in turn
abbrev pub differing_said : Kind → Extended → List Extended → List UserSaid
differing_said kind entry others =
    flat_map (λ (name : List ℕ). said_if name (user_difference kind (said entry.rows name) (first_said others name))) (names_among kind entry others)

-- what it says of user-defined names, and then a use of each of the others
abbrev pub relative_said : Extended → List Extended → List UserSaid
relative_said entry others =
    differing_said Flag entry others
    ++ (differing_said Number entry others
    ++ (differing_said Text entry others ++ map (λ (other : Extended). imports (first_name other.entry.names)) others))

-- a value, if there is one, has a text that is read as it
abbrev pub IsWritableIfSome : Option Content → Type 0
IsWritableIfSome None = Unit {0}
IsWritableIfSome (Some content) = IsWritable content

-- rows of user-defined names, whose values can be written
abbrev pub AreWritable : List ReadRow → Type 0
AreWritable rows = All (λ (row : ReadRow). (is_user_defined_name row.0 ≡ true) × IsWritableIfSome row.1) rows

-- an entry that another one can use by its first name, with user-defined names
pub record CanBeUsed (other : Extended) : Type 0 where
  pub first : IsUsableName (first_name other.entry.names)
  pub user_defined : All (λ (row : ReadRow). is_user_defined_name row.0 ≡ true) other.rows

-- The relative source of an entry, in any layout, is read as what differs and the uses, without a
-- fault.
abbrev pub RelativesAreRead : Type 0
RelativesAreRead =
    (entry : Extended) (others : List Extended) (names : List (List ℕ)) (layout : Layout) → IsListable entry.entry.names names → CanHaveAll entry.entry.contents
    → AreWritable entry.rows → All CanBeUsed others
    → IsUserReadAs (relative_said entry others) (user_reading_of_text (extended_relative entry others layout))

-- what the first item that speaks of a name gives it
abbrev pub given : List UserSaid → List ℕ → Option Content
given [] name = None
given (says other content ∷ said) name = if bytes_eq other name then Some content else given said name
given (imports other ∷ said) name = given said name

-- What a relative source says of a name, and where it says nothing what the first of the others
-- has, is what the entry has.
abbrev pub RelativesSayTheEntry : Type 0
RelativesSayTheEntry =
    (entry : Extended) (others : List Extended) (name : List ℕ) → All (λ (row : ReadRow). row.1 ≢ Some content_cancelled) entry.rows
    → without_cancel (option_or (given (relative_said entry others) name) (first_said others name)) ≡ said entry.rows name

-- ---- in a source

-- an entry whose names field and values can be listed, with user-defined capabilities of a source
pub record CanBeListed (entry : Extended) : Type 0 where
  pub names : List (List ℕ)
  pub rows : List Row
  pub listable : IsListable entry.entry.names names
  pub holds : CanHaveAll entry.entry.contents
  pub are_rows : entry.rows ≡ as_read rows
  pub of_source : AreOfSource rows

-- an entry whose names field and values can be listed, whatever its user-defined rows: some may have
-- no value, and a name may stand in several
pub record HasListing (entry : Extended) : Type 0 where
  pub names : List (List ℕ)
  pub listable : IsListable entry.entry.names names
  pub holds : CanHaveAll entry.entry.contents
  pub writable : AreWritable entry.rows
  pub plain : All (λ (row : ReadRow). row.1 ≢ Some content_cancelled) entry.rows

-- What is read has a listing with any names field that can be listed, be it its own or another one.
abbrev pub ReadEntriesHaveListings : Type 0
ReadEntriesHaveListings =
    (bytes field : List ℕ) (entry : Extended) (names : List (List ℕ)) → AreBytes bytes → Reads bytes field entry.entry.contents → EndsWell bytes
    → entry.rows ≡ rows_after bytes → IsListable entry.entry.names names → HasListing entry

-- In whatever source it is and by whatever rule that is read, the listing of such an entry says of
-- each user-defined name what the entry has: what the first of its rows that has a value has.
abbrev pub ListingsSayTheEntry : Type 0
ListingsSayTheEntry =
    (rule : Rule) (entry : Extended) (layout : Layout) (texts : List (List ℕ)) → HasListing entry
    → IsUserTableBy rule texts (extended_listing entry layout) (said entry.rows)

-- And without user-defined capabilities it says of each capability of the tables what the entry has.
abbrev pub ListingsSayTheTables : Type 0
ListingsSayTheTables =
    (rule : Rule) (entry : Extended) (layout : Layout) (texts : List (List ℕ)) → HasListing entry
    → (mentions : List Mention) × (profile.expansion (readings_by rule texts) (reading_by rule (extended_listing entry layout)) ≡ Some mentions)
    × ((c : Capability) → IsCapability c → contents mentions c ≡ entry.entry.contents c)

-- an entry, and the layout of its listing
abbrev pub Listed : Type 0
Listed = Extended × Layout

-- the entries without their layouts
abbrev pub entries_of : List Listed → List Extended
entries_of listed = map (λ (one : Listed). one.0) listed

-- the first name of an entry leads to its listing
pub record IsListedIn (texts : List (List ℕ)) (one : Listed) : Type 0 where
  pub listed : CanBeListed one.0
  pub first : IsUsableName (first_name one.0.entry.names)
  pub owned : owner_text texts (first_name one.0.entry.names) ≡ Some (extended_listing one.0 one.1)

-- In a source in which the first names of the others lead to their listings, each in any layout,
-- and by whatever rule the source is read, the relative source of an entry says of each user-defined
-- name what the entry has, a cancel being nothing.
abbrev pub RelativesSayTheEntryInASource : Type 0
RelativesSayTheEntryInASource =
    (rule : Rule) (entry : Extended) (layout : Layout) (listed : List Listed) (texts : List (List ℕ)) → CanBeListed entry → 0 < length texts
    → All (IsListedIn texts) listed
    → (mentions : List UserMention) × (expansion_by rule texts (extended_relative entry (entries_of listed) layout) ≡ Some mentions)
    × ((name : List ℕ) → without_cancel (mentioned mentions name) ≡ said entry.rows name)

-- And without user-defined capabilities it says of each capability of the tables what the entry has,
-- a cancel being nothing.
abbrev pub RelativesSayTheTablesInASource : Type 0
RelativesSayTheTablesInASource =
    (rule : Rule) (entry : Extended) (layout : Layout) (listed : List Listed) (texts : List (List ℕ)) → CanBeListed entry → 0 < length texts
    → All (IsListedIn texts) listed
    → (mentions : List Mention)
    × (profile.expansion (readings_by rule texts) (reading_by rule (extended_relative entry (entries_of listed) layout)) ≡ Some mentions)
    × ((c : Capability) → IsCapability c → without_cancel (contents mentions c) ≡ without_cancel (entry.entry.contents c))
