-- What is known of every block that is read, for those who build on it (own).
use Rattle.std.specs.Prelude.{◌≡◌, ◌≢◌, ℕ, ◌<◌, ◌≤◌, false, List, [], ◌++◌, ◌∷◌, length, true, map, All}
use Rattle.std.specs.List.{list_any, AllByRecursion}
use Rattle.ti_caps.specs.Tables.{IsCapability}
use Rattle.ti_caps.specs.declared.capability.Kind.TheVariants.{Flag, Number, Text}
use Rattle.ti_source.specs.Cutting.{OneBlock}
use Rattle.ti_text.specs.Lines.{line_count}
use Rattle.ti_source.specs.Code.{is_error, is_of_header}
use Rattle.ti_source.specs.Header.{IsLookupName}
use Rattle.ti_text.specs.Limits.{number_max, names_max}
use Rattle.ti_spelling.specs.Spelling.{HasNoNul}
use Rattle.ti_source.specs.Reading.{Reading, ReadItem, ReadFault, Said, said_flag, said_number, said_text, said_cancel, said_import}
use Rattle.ti_source.specs.Parsing.{reading_of_text}

-- what an item says of a capability fits it: its kind, a number within the limit, a string without
-- NUL
abbrev pub SetsItsKind : Said → Type 0
SetsItsKind (said_flag c) = IsCapability c × (c.kind ≡ Flag)
SetsItsKind (said_number c n) = IsCapability c × (c.kind ≡ Number) × (n ≤ number_max)
SetsItsKind (said_text c text) = IsCapability c × (c.kind ≡ Text) × HasNoNul text
SetsItsKind (said_cancel c) = IsCapability c
SetsItsKind (said_import name) = Unit {0}

-- a line of a block
abbrev pub IsLineOf : List ℕ → ℕ → Type 0
IsLineOf block line = (1 ≤ line) × (line ≤ line_count block)

-- a names field that can be written: not empty, without NUL, within the limit
pub record IsWritable (field : List ℕ) : Type 0 where
  pub some : field ≢ []
  pub no_nul : HasNoNul field
  pub short : length field ≤ names_max

-- numbers that rise, each over the one before
abbrev pub IsRising : List ℕ → Type 0
IsRising [] = Unit {0}
IsRising (n ∷ ns) = AllByRecursion (λ m. n < m) ns × IsRising ns

-- items are in order, and so are faults: at most one for an item, after at most one of the names
-- field
pub record IsInOrder (reading : Reading) : Type 0 where
  pub of_header : List ReadFault
  pub of_items : List ReadFault
  pub faults : reading.faults ≡ of_header ++ of_items
  pub one : length of_header ≤ 1
  pub header : All (λ (f : ReadFault). is_of_header f.code ≡ true) of_header
  pub item : All (λ (f : ReadFault). is_of_header f.code ≡ false) of_items
  pub items_rise : IsRising (map (λ (i : ReadItem). i.ordinal) reading.items)
  pub faults_rise : IsRising (map (λ (f : ReadFault). f.ordinal) of_items)

-- what is read of a block is sound: its names, its field if no fault is an error, what it sets, its
-- order and lines
pub record IsWellRead (block : List ℕ) (reading : Reading) : Type 0 where
  pub names : All IsLookupName reading.names
  -- if no fault is an error, the names field can be written
  pub named : list_any (λ (f : ReadFault). is_error f.code) reading.faults ≡ false → IsWritable reading.field
  pub sets : All (λ (i : ReadItem). SetsItsKind i.said) reading.items
  pub order : IsInOrder reading
  pub item_lines : All (λ (i : ReadItem). IsLineOf block i.line) reading.items
  pub fault_lines : All (λ (f : ReadFault). IsLineOf block f.line) reading.faults

-- what is read of every block is sound
abbrev pub EachIsWellRead : Type 0
EachIsWellRead = (block : List ℕ) → OneBlock block → IsWellRead block (reading_of_text block)
