-- A comma that is missing (own): the text of a string goes on with the name of another string and a
-- `=`, or after a boolean and a line break there is another capability.
use Rattle.std.specs.Prelude.{
  ℕ,
  ◌+◌,
  ◌-◌,
  ◌&&◌,
  nat_lt,
  Bool,
  true,
  false,
  List,
  [],
  ◌∷◌,
  drop,
  length,
  take,
  Option,
  None,
  Some,
  option_and_then,
  if◌then◌else◌,
}
use Rattle.std.specs.Option.{is_some, option_map_or, option_or}
use Rattle.ti_source.specs.Folding.{PlacedByte}
use Rattle.ti_source.specs.Items.{Claim, Statement, claims_flag, claims_text}
use Rattle.ti_source.specs.Stating.{statement_of}
use Rattle.source_block_hints.specs.Mentions.{mention_of}
use Rattle.source_block_hints.specs.declared.found.Found.{Found}
use Rattle.source_block_hints.specs.declared.hint.HintKind.TheVariants.{MissingComma}

-- how many bytes are read for a name and its `=`: no name of a capability has more than eight
abbrev pub name_and_mark_max : ℕ
name_and_mark_max = 9

-- the length of the name of a statement, if it is of a string
abbrev pub string_name_len : Claim → Statement → Option ℕ
string_name_len (claims_text value) statement = if is_some (mention_of statement) then Some (length statement.name) else None
string_name_len claim statement = None

-- the length of the name that a text begins with, if it is that of a string and a `=` is after it
abbrev pub name_len_at : List ℕ → Option ℕ
name_len_at text = option_and_then (λ (s : Statement). string_name_len s.claim s) (statement_of (take name_and_mark_max text))

-- a name of this length at an offset
abbrev pub name_found : ℕ → Option ℕ → Option Found
name_found at None = None
name_found at (Some len) = Some (record { kind = MissingComma; part = record { start = at; end = at + len } })

-- the first name of a string, with its `=`, in a text that begins at this offset
abbrev pub name_from : ℕ → List ℕ → Option Found
name_from at [] = None
name_from at (x ∷ xs) = option_or (name_found at (name_len_at (x ∷ xs))) (name_from (at + 1) xs)

-- whether a claim is that of a boolean
abbrev pub is_flag : Claim → Bool
is_flag claims_flag = true
is_flag claim = false

-- whether a statement is that a terminal has a boolean
abbrev pub says_flag : Statement → Bool
says_flag statement = if is_flag statement.claim then is_some (mention_of statement) else false

-- whether a text says that a terminal has a boolean
abbrev pub says_boolean : List ℕ → Bool
says_boolean text = option_map_or says_flag (statement_of text) false

-- the length of the name of the capability that a statement is of
abbrev pub said_name_len : Statement → Option ℕ
said_name_len statement = if is_some (mention_of statement) then Some (length statement.name) else None

-- a capability at this offset of a text, if all before it says a boolean
abbrev pub after_boolean : List ℕ → ℕ → Option Found
after_boolean text at = if says_boolean (take at text) then name_found at (option_and_then said_name_len (statement_of (drop at text))) else None

-- whether the next byte is on another line: there are bytes of the block between the two
abbrev pub is_line_break : PlacedByte → List PlacedByte → Bool
is_line_break byte [] = false
is_line_break byte (next ∷ rest) = nat_lt byte.1 next.1 && nat_lt 1 (next.1 - byte.1)

-- a capability at this offset of a text, if it is on another line than the byte before it and all
-- before it says a boolean
abbrev pub broken_at : List ℕ → ℕ → PlacedByte → List PlacedByte → Option Found
broken_at text at byte rest = if is_line_break byte rest then after_boolean text at else None

-- the first such capability; what is left of the item begins at this offset of its text
abbrev pub broken_from : List ℕ → ℕ → List PlacedByte → Option Found
broken_from text at [] = None
broken_from text at (byte ∷ rest) = option_or (broken_at text (at + 1) byte rest) (broken_from text (at + 1) rest)
