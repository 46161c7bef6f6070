-- An entry's source on one line (infocmp(1), -0): that of an item a line, without the breaks between items.
use Rattle.std.specs.Prelude.{ℕ, ◌+◌, ◌-◌, ◌==◌, nat_lt, Bool, true, false, ◌&&◌, ◌||◌, not, if◌then◌else◌, List, [], ◌∷◌, length, slice_get, slice_index}
use Rattle.std.specs.Prelude.{Option, Some, None}
use Rattle.std.specs.List.{flat_map, range_with_len}
use Rattle.ti_text.specs.Ascii as ascii
use Rattle.tools_commands.specs.declared.jobs.InfocmpMode.{InfocmpMode}
use Rattle.tools_commands.specs.declared.jobs.InfocmpMode.TheVariants as mode
use Rattle.everyday_words.specs.Requests.{InfocmpWanted}
use Rattle.everyday_infocmp.specs.TermcapListings.{is_termcap}

-- whether a byte is this one
abbrev pub is_byte : Option ℕ → ℕ → Bool
is_byte None byte = false
is_byte (Some b) byte = b == byte

-- whether a text has this byte at a place
abbrev pub is_at : List ℕ → ℕ → ℕ → Bool
is_at text at byte = is_byte (slice_get text at) byte

-- whether the byte at a place is of a break: a newline before a tab, or a tab after a newline
abbrev pub is_break : List ℕ → ℕ → Bool
is_break text at =
    (is_at text at ascii.newline && is_at text (at + 1) ascii.tab)
    || (is_at text at ascii.tab && (nat_lt 0 at && is_at text (at - 1) ascii.newline))

-- the byte at a place, unless it is of a break
abbrev pub byte_at : List ℕ → ℕ → List ℕ
byte_at text at = if is_break text at then [] else slice_index text at ∷ []

-- the bytes from a place on that are of no break
abbrev pub bytes_from : List ℕ → ℕ → List ℕ
bytes_from text at = flat_map (byte_at text) (range_with_len at (length text - at))

-- a text without breaks
abbrev pub joined : List ℕ → List ℕ
joined text = bytes_from text 0

-- whether a mode prints source
abbrev pub is_source : InfocmpMode → Bool
is_source mode.List = true
is_source mode.Relative = true
is_source _ = false

-- whether source is printed on one line; termcap's form has its own lines
abbrev pub is_joined : InfocmpWanted → Bool
is_joined wanted = wanted.joined && not (is_termcap wanted.user_defined wanted.termcap wanted.mode) && is_source wanted.mode

-- the text as it is asked for
abbrev pub as_asked : InfocmpWanted → List ℕ → List ℕ
as_asked wanted text = if is_joined wanted then joined text else text
