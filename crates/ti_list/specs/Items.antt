-- An entry as source text, whatever its layout: the names field, a comma, and then the items, each
-- with its comma, on the line or on a new one (X/Open Curses Issue 7, "Terminfo Source Format";
-- infocmp(1)).
use Rattle.std.specs.Prelude.{◌≡◌, ◌≢◌, ℕ, ◌≤◌, true, false, not, ◌==◌, List, [], ◌∷◌, ◌++◌, length, map, All, codes}
use Rattle.std.specs.List.{list_all}
use Rattle.std.specs.Fmt.{decimal}
use Rattle.ti_text.specs.Ascii as ascii
use Rattle.ti_caps.specs.Tables.{IsCapability, name_of}
use Rattle.ti_caps.specs.declared.capability.Kind.TheVariants.{Flag, Number, Text}
use Rattle.ti_spelling.specs.Spelling.{spelling_of, AreBytes, HasNoNul}
use Rattle.ti_source.specs.Header.{HeaderNames, IsLookupName}
use Rattle.ti_text.specs.Limits.{number_max, names_max}
use Rattle.ti_source.specs.Reading.{Said, said_flag, said_number, said_text, said_cancel, said_import, ReadItem, Reading}

-- an item as it is written, without the comma that ends it: `am`, `cols#80`, `bel=^G`, `cr@`,
-- `use=dumb`
abbrev pub item_text : Said → List ℕ
item_text (said_flag c) = name_of c
item_text (said_number c n) = name_of c ++ ascii.number_sign ∷ decimal n
item_text (said_text c t) = name_of c ++ ascii.equals ∷ spelling_of t
item_text (said_cancel c) = name_of c ++ ascii.at_sign ∷ []
item_text (said_import name) = codes "use=" ++ name

-- ---- any layout

-- what follows the comma of the names field: the items in order, each after a space or on a new
-- line that a tab begins; then a newline
pub data IsTail : (items : List Said) (tail : List ℕ) → Type 0 where
  no_more : IsTail [] (ascii.newline ∷ [])
  same_line : (item : Said) (items : List Said) (tail : List ℕ) → IsTail items tail → IsTail (item ∷ items) (ascii.space ∷ item_text item ++ ascii.comma ∷ tail)
  new_line : (item : Said) (items : List Said) (tail : List ℕ)
      → IsTail items tail → IsTail (item ∷ items) (ascii.newline ∷ ascii.tab ∷ item_text item ++ ascii.comma ∷ tail)

-- the text is this names field with these items, in some layout
pub record IsListing (field : List ℕ) (items : List Said) (text : List ℕ) : Type 0 where
  pub tail : List ℕ
  pub whole : text ≡ field ++ ascii.comma ∷ tail
  pub is_tail : IsTail items tail

-- ---- what reads back as it is written

-- the item has a text that is read as that item
abbrev pub CanBeListed : Said → Type 0
CanBeListed (said_flag c) = IsCapability c × (c.kind ≡ Flag)
CanBeListed (said_number c n) = IsCapability c × (c.kind ≡ Number) × (n ≤ number_max)
CanBeListed (said_text c t) = IsCapability c × (c.kind ≡ Text) × AreBytes t × HasNoNul t
CanBeListed (said_cancel c) = IsCapability c
CanBeListed (said_import name) = IsLookupName name × All (λ byte. byte ≢ ascii.backslash) name

-- The names field has a text that is read as that field: it has lookup names and is within the
-- limit, no comma ends it, it is one line, and it is not a comment.
pub record IsListable (field : List ℕ) (names : List (List ℕ)) : Type 0 where
  pub header : HeaderNames field names
  pub short : length field ≤ names_max
  pub no_comma : list_all (λ byte. not (byte == ascii.comma)) field ≡ true
  pub inline : list_all (λ byte. not (byte == ascii.newline)) field ≡ true
  pub plain : (first : ℕ) (others : List ℕ) → field ≡ first ∷ others → (first == ascii.number_sign) ≡ false

-- a block was read as this names field with these names and items, without a fault
pub record IsReadAs (field : List ℕ) (names : List (List ℕ)) (items : List Said) (reading : Reading) : Type 0 where
  pub same_field : reading.field ≡ field
  pub same_names : reading.names ≡ names
  pub says : map (λ (item : ReadItem). item.said) reading.items ≡ items
  pub none_wrong : reading.faults ≡ []
