-- A source text with user-defined items, whatever its layout, and what is read of it (terminfo(5);
-- tic(1) at `-x`).
use Rattle.ti_text.specs.Ascii as ascii
use Rattle.ti_text.specs.Limits.{number_max}
use Rattle.std.specs.Prelude.{◌≡◌, ℕ, ◌≤◌, true, List, [], ◌∷◌, ◌++◌, map, All, Option, Some, None}
use Rattle.std.specs.List.{filter_map}
use Rattle.ti_spelling.specs.Spelling.{AreBytes, HasNoNul}
use Rattle.ti_source.specs.Cutting.{OneBlock}
use Rattle.ti_source.specs.declared.code.Code.TheVariants as code
use Rattle.ti_source.specs.Reading.{Said, said_flag, said_number, said_text, said_cancel, said_import, ReadFault, ReadItem, Reading}
use Rattle.ti_source.specs.Parsing.{reading_of_text}
use Rattle.ti_layout.specs.Values.{Content, content_true, content_number, content_text, content_cancelled}
use Rattle.ti_list.specs.Items as tables
use Rattle.user_items.specs.Names.{is_user_defined_name}
use Rattle.user_items.specs.Verdicts.{UserSaid, says, imports}
use Rattle.user_items.specs.Reading.{ReadUserItem, UserBlock}
use Rattle.user_items.specs.Parsing.{user_reading_of_text}
use Rattle.user_listing.specs.Items.{named_item}

-- an item of a text: one of the tables or a use, or one of a user-defined name
pub data Item : Type 0 where
  of_tables : Said → Item
  of_user : List ℕ → Content → Item

-- an item as it is written
abbrev pub item_text : Item → List ℕ
item_text (of_tables said) = tables.item_text said
item_text (of_user name content) = named_item name content

-- what an item gives to user-defined capabilities
abbrev pub user_said : Item → Option UserSaid
user_said (of_tables (said_flag c)) = None
user_said (of_tables (said_number c n)) = None
user_said (of_tables (said_text c t)) = None
user_said (of_tables (said_cancel c)) = None
user_said (of_tables (said_import name)) = Some (imports name)
user_said (of_user name content) = Some (says name content)

-- what an item is to the profile: what it says of a capability, or a use; nothing if its name is
-- user-defined
abbrev pub table_said : Item → Option Said
table_said (of_tables said) = Some said
table_said (of_user name content) = None

-- what follows the comma of the names field: the items in order, each after a space or on a new
-- line that a tab begins; then a newline
pub data IsTail : (items : List Item) (tail : List ℕ) → Type 0 where
  no_more : IsTail [] (ascii.newline ∷ [])
  same_line : (item : Item) (items : List Item) (tail : List ℕ) → IsTail items tail → IsTail (item ∷ items) (ascii.space ∷ item_text item ++ ascii.comma ∷ tail)
  new_line : (item : Item) (items : List Item) (tail : List ℕ)
      → IsTail items tail → IsTail (item ∷ items) (ascii.newline ∷ ascii.tab ∷ item_text item ++ ascii.comma ∷ tail)

-- the text is this names field with these items, in some layout
pub record IsSource (field : List ℕ) (items : List Item) (text : List ℕ) : Type 0 where
  pub tail : List ℕ
  pub whole : text ≡ field ++ ascii.comma ∷ tail
  pub is_tail : IsTail items tail

-- a value has a text that is read as it
abbrev pub IsWritable : Content → Type 0
IsWritable content_true = Unit {0}
IsWritable (content_number n) = n ≤ number_max
IsWritable (content_text t) = AreBytes t × HasNoNul t
IsWritable content_cancelled = Unit {0}

-- the item has a text that is read as that item
abbrev pub CanBeWritten : Item → Type 0
CanBeWritten (of_tables said) = tables.CanBeListed said
CanBeWritten (of_user name content) = (is_user_defined_name name ≡ true) × IsWritable content

-- user-defined capabilities were read so, without a fault
pub record IsUserReadAs (said : List UserSaid) (reading : UserBlock) : Type 0 where
  pub says : map (λ (item : ReadUserItem). item.said) reading.items ≡ said
  pub none_wrong : reading.faults ≡ []

-- a block was read as this names field with these names and these items, and each fault is the
-- warning of an unknown name
pub record IsProfileReadAs (field : List ℕ) (names : List (List ℕ)) (said : List Said) (reading : Reading) : Type 0 where
  pub same_field : reading.field ≡ field
  pub same_names : reading.names ≡ names
  pub says : map (λ (item : ReadItem). item.said) reading.items ≡ said
  pub warned : All (λ (fault : ReadFault). fault.code ≡ code.UnknownCapability) reading.faults

-- A names field and items that can be written, in any layout, are read without user-defined
-- capabilities as that field and the items of the tables; the others are warnings.
abbrev pub ItemsAreReadByTheProfile : Type 0
ItemsAreReadByTheProfile =
    (field : List ℕ) (names : List (List ℕ)) (items : List Item) (text : List ℕ) → tables.IsListable field names → All CanBeWritten items
    → IsSource field items text
    → IsProfileReadAs field names (filter_map table_said items) (reading_of_text text)

-- A names field and items that can be written, in any layout, are read as what the items give to
-- user-defined capabilities, without a fault.
abbrev pub ItemsAreRead : Type 0
ItemsAreRead =
    (field : List ℕ) (names : List (List ℕ)) (items : List Item) (text : List ℕ) → tables.IsListable field names → All CanBeWritten items
    → IsSource field items text
    → IsUserReadAs (filter_map user_said items) (user_reading_of_text text)

-- A text that lays out a names field and items that can be written is one block, which begins with
-- the field and ends with a newline.
abbrev pub ItemsAreBlocks : Type 0
ItemsAreBlocks =
    (field : List ℕ) (names : List (List ℕ)) (items : List Item) (text : List ℕ) → tables.IsListable field names → All CanBeWritten items
    → IsSource field items text → OneBlock text
