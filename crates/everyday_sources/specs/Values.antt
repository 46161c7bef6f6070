-- What the blocks say that stand for installed entries, and what the blocks have that use them (tic(1)).
use Rattle.std.specs.Prelude.{◌≡◌, ℕ, ◌≤◌, true, false, List, length, Option, Some, Ok, slice_get}
use Rattle.ti_text.specs.Limits.{names_max}
use Rattle.ti_text.specs.Texts.{AreBytes}
use Rattle.ti_caps.specs.Tables.{Capability, IsCapability}
use Rattle.ti_source.specs.declared.parsing.Rule.{Rule}
use Rattle.ti_source.specs.Parsing.{reading_of_text}
use Rattle.ti_source.specs.Reading.{said_import}
use Rattle.ti_layout.specs.Values.{Mention, contents}
use Rattle.ti_layout.specs.View.{entry_seen}
use Rattle.ti_layout.specs.declared.view.View.{View}
use Rattle.base_meaning.specs.Expansion as profile
use Rattle.base_meaning.specs.Readings.{reading_by, readings_by}
use Rattle.tools_devices.specs.Searching.{file_bytes_max}
use Rattle.tools_devices.specs.Tree.{FileAt, Files}
use Rattle.tools_directories.specs.Finding.{Finds}
use Rattle.tools_directories.specs.Paths.{paths_of}
use Rattle.tools_directories.specs.Reading.{Opens}
use Rattle.user_items.specs.Verdicts.{imports}
use Rattle.user_extension.specs.Reading.{said}
use Rattle.user_extension.specs.View.{read_rows}
use Rattle.user_extension.specs.declared.view.Extension.{Extension}
use Rattle.user_listing.specs.Entries.{Extended}
use Rattle.user_listing.specs.Listing.{extended_listing}
use Rattle.user_values.specs.Expansion.{owner_text, user_value_by}
use Rattle.user_values.specs.Tables.{IsUserTableBy}
use Rattle.user_relisting.specs.Using.{IsAlone, may_give, may_give_table, table_said_in, user_said_in}
use Rattle.everyday_sources.specs.Installed.{HasName, begins_comment, block_names, can_begin_block, layout}
use Rattle.everyday_sources.specs.Used.{ProblemSeen, TakesUsed}

-- an entry that was found by a name, with the names field of its block
abbrev pub in_block : Extended → (name : List ℕ) → Extended
in_block entry name = record {
  entry = record { names = block_names entry.entry.names name; contents = entry.entry.contents };
  rows = entry.rows;
}

-- the text stands for an entry: it is the listing of what the bytes of a file read as, with the names
-- field of a block, and the entry has the name by which it was found
pub record StandsFor (text : List ℕ) (entry : Extended) : Type 0 where
  pub bytes : List ℕ
  pub view : View
  pub extension : Extension
  pub opens : Opens file_bytes_max bytes (Ok (view, extension))
  pub entry_is : entry ≡ record { entry = entry_seen view; rows = read_rows extension }
  pub name : List ℕ
  pub has : HasName entry.entry.names name true
  pub text_is : text ≡ extended_listing (in_block entry name) layout

-- it does, with a file of bytes, and a block can have its names field, or else was found by a name that
-- is within the limit of a names field and begins no comment
pub record StandsWell (text : List ℕ) (entry : Extended) : Type 0 where
  pub is : StandsFor text entry
  pub of_bytes : AreBytes is.bytes
  pub short : can_begin_block entry.entry.names ≡ false → length is.name ≤ names_max
  pub plain : can_begin_block entry.entry.names ≡ false → begins_comment is.name ≡ false

-- it does, and the file was found in the directories by that name
pub record IsInstalled (files : Option Files) (directories : List (List ℕ)) (text : List ℕ) (entry : Extended) : Type 0 where
  pub is : StandsFor text entry
  pub file : FileAt
  pub before : ℕ
  pub after : ℕ
  pub found : Finds files (paths_of is.name directories) before after (Some file)
  pub of_file : is.bytes ≡ file.1

-- With user-defined capabilities each block after the source stands for an entry that is installed.
abbrev pub FurtherBlocksStandForEntries : Type 0
FurtherBlocksStandForEntries =
    (rule : Rule) (files : Option Files) (directories texts : List (List ℕ)) (before after : ℕ) (last : List (List ℕ)) (problems : List ProblemSeen) (at : ℕ)
    (text : List ℕ) → TakesUsed rule true files directories texts before after last problems → length texts ≤ at → slice_get last at ≡ Some text
    → (entry : Extended) × IsInstalled files directories text entry

-- Among whatever blocks, one that stands for an entry says of each user-defined name what the entry
-- has: the value of the first of its rows that is present.
abbrev pub StandingBlocksSayTheEntry : Type 0
StandingBlocksSayTheEntry =
    (rule : Rule) (texts : List (List ℕ)) (text : List ℕ) (entry : Extended) → StandsWell text entry → IsUserTableBy rule texts text (said entry.rows)

-- So it says of each capability of the tables.
abbrev pub StandingBlocksSayTheTables : Type 0
StandingBlocksSayTheTables =
    (rule : Rule) (texts : List (List ℕ)) (text : List ℕ) (entry : Extended) → StandsWell text entry
    → (mentions : List Mention) × (profile.expansion (readings_by rule texts) (reading_by rule text) ≡ Some mentions)
    × ((c : Capability) → IsCapability c → contents mentions c ≡ entry.entry.contents c)

-- a block without errors of its own uses a name that leads to one that stands for an entry
pub record UsesEntry (texts : List (List ℕ)) (at : ℕ) (used : List ℕ) (entry : Extended) : Type 0 where
  pub text : List ℕ
  pub stands : slice_get texts at ≡ Some text
  pub sound : profile.is_broken (reading_of_text text) ≡ false
  pub installed : List ℕ
  pub owned : owner_text texts used ≡ Some installed
  pub well : StandsWell installed entry

-- A block that uses such an entry has the entry's value of each user-defined name that no other of
-- its items can give it.
abbrev pub UsersHaveTheEntry : Type 0
UsersHaveTheEntry =
    (rule : Rule) (texts : List (List ℕ)) (at : ℕ) (used : List ℕ) (entry : Extended) (name : List ℕ) → (uses : UsesEntry texts at used entry)
    → IsAlone (may_give name) (imports used) (user_said_in uses.text) → user_value_by rule texts at name ≡ said entry.rows name

-- So it has of each capability of the tables.
abbrev pub UsersHaveTheTables : Type 0
UsersHaveTheTables =
    (rule : Rule) (texts : List (List ℕ)) (at : ℕ) (used : List ℕ) (entry : Extended) (c : Capability) → (uses : UsesEntry texts at used entry)
    → IsCapability c → IsAlone (may_give_table c) (said_import used) (table_said_in uses.text)
    → (mentions : List Mention) × (profile.expansion (readings_by rule texts) (reading_by rule uses.text) ≡ Some mentions)
    × (profile.values mentions c ≡ entry.entry.contents c)
