-- What a table holds, and when it is that of a block.
use Rattle.std.specs.Prelude.{ℕ, ◌≡◌, List, map, Option, Some, None, option_and_then, slice_get, if◌then◌else◌}
use Rattle.std.specs.Option.{option_or}
use Rattle.std.specs.List.{AllPairs}
use Rattle.std.specs.Str.{bytes_eq}
use Rattle.std.specs.Rc.{rc_slice_items}
use Rattle.std.specs.Cmp.Lexicographic.{slice_cmp}
use Rattle.std.specs.Ordering.{nat_cmp}
use Rattle.std.specs.declared.cmp.Ordering.TheVariants.{Less}
use Rattle.std.specs.declared.alloc.Global.{Global}
use Rattle.std.specs.declared.rc.Rc.{Rc}
use Rattle.ti_source.specs.declared.parsing.Rule.{Rule}
use Rattle.ti_source.specs.declared.parsing.Rule.TheVariants.{Leftmost}
use Rattle.ti_layout.specs.Values.{Content, content_of}
use Rattle.user_items.specs.Verdicts.{UserSaid}
use Rattle.user_values.specs.Expansion.{UserMention, first_said, mentions_of, expansion_by, owner_text}
use Rattle.user_values.specs.declared.entries.UserEntry.{UserEntry}

-- what is said about each name
abbrev pub Said : Type 0
Said = List ℕ → Option Content

-- what a table holds: names, each with the value or the cancel that it is given
abbrev pub TableSeen : Type 0
TableSeen = List UserMention

-- one name comes before the other, by their bytes
abbrev pub IsBefore : UserMention → UserMention → Type 0
IsBefore one other = slice_cmp nat_cmp one.0 other.0 ≡ Less

-- each name comes after those before it
abbrev pub NamesRise : TableSeen → Type 0
NamesRise table = AllPairs IsBefore table

-- what an entry holds, wherever it is in memory
abbrev pub entry_seen : UserEntry → UserMention
entry_seen entry = (rc_slice_items entry.name, content_of entry.value)

-- what a list of entries holds, in their order
abbrev pub entries_seen : List (Rc UserEntry Global) → TableSeen
entries_seen entries = map (λ e. entry_seen e.value) entries

-- what a table says of a name
abbrev pub said_at : TableSeen → Said
said_at table name = first_said table name

-- what is said if one thing is
abbrev pub said_once : List ℕ → Content → Said
said_once name content other = if bytes_eq name other then Some content else None

-- ---- by a rule

-- a block of the list resolves, and the table says what its mentions say
abbrev pub IsUserTableBy : Rule → List (List ℕ) → List ℕ → Said → Type 0
IsUserTableBy rule texts text said =
    (mentions : List UserMention) × (expansion_by rule texts text ≡ Some mentions) × ((name : List ℕ) → said name ≡ first_said mentions name)

-- a block has a table exactly if it resolves
abbrev pub HasUserTableBy : Rule → List (List ℕ) → List ℕ → Option TableSeen → Type 0
HasUserTableBy rule texts text None = expansion_by rule texts text ≡ None
HasUserTableBy rule texts text (Some table) = IsUserTableBy rule texts text (said_at table)

-- the table is that of the block at this position of the list
abbrev pub IsTableAtBy : Rule → List (List ℕ) → ℕ → Option TableSeen → Type 0
IsTableAtBy rule texts at table = (text : List ℕ) → slice_get texts at ≡ Some text → HasUserTableBy rule texts text table

-- the mentions of the block that owns a name
abbrev pub names_by : Rule → List (List ℕ) → List ℕ → Option (List UserMention)
names_by rule texts name = option_and_then (expansion_by rule texts) (owner_text texts name)

-- what an item says is said where nothing was
abbrev pub AddsSaidBy : Rule → List (List ℕ) → UserSaid → Said → Said → Type 0
AddsSaidBy rule texts said old new =
    (mentions : List UserMention) × (mentions_of (names_by rule texts) said ≡ Some mentions)
    × ((name : List ℕ) → new name ≡ option_or (old name) (first_said mentions name))

-- ---- in the profile

-- the table says what the mentions of a block say
abbrev pub IsUserTableOf : List (List ℕ) → List ℕ → Said → Type 0
IsUserTableOf texts text said = IsUserTableBy Leftmost texts text said

abbrev pub HasUserTable : List (List ℕ) → List ℕ → Option TableSeen → Type 0
HasUserTable texts text table = HasUserTableBy Leftmost texts text table

-- the table is that of the block at this position
abbrev pub IsTableAt : List (List ℕ) → ℕ → Option TableSeen → Type 0
IsTableAt texts at table = IsTableAtBy Leftmost texts at table

abbrev pub names_at : List (List ℕ) → List ℕ → Option (List UserMention)
names_at texts name = names_by Leftmost texts name

abbrev pub AddsSaid : List (List ℕ) → UserSaid → Said → Said → Type 0
AddsSaid texts said old new = AddsSaidBy Leftmost texts said old new
