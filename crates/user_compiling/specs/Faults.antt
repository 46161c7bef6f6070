-- The faults of a source whose user-defined capabilities are kept (own): those of the profile, each
-- warning of an unknown name that an item defines exchanged for what is wrong with that item, if
-- something is, and the fault of the entry by the entry with its extension.
use Rattle.std.specs.Prelude.{ℕ, suc, Bool, true, false, nat_eq, if◌then◌else◌, List, [], ◌∷◌, ◌++◌, map, filter, Option, Some, None}
use Rattle.std.specs.List.{flat_map}
use Rattle.std.specs.Rc.{rc_slice_items}
use Rattle.ti_source.specs.declared.code.Code.{Code}
use Rattle.ti_source.specs.declared.code.Code.TheVariants as code
use Rattle.ti_source.specs.Code.{is_error}
use Rattle.ti_source.specs.declared.parsing.Rule.{Rule}
use Rattle.ti_source.specs.declared.parsing.Rule.TheVariants.{Leftmost}
use Rattle.ti_source.specs.Reading.{Reading}
use Rattle.ti_source.specs.Parsing.{reading_of_text}
use Rattle.base_meaning.specs.Readings.{readings_by}
use Rattle.base_meaning.specs.Compiled.{EntryState}
use Rattle.base_meaning.specs.Faults.{SourceFault, fault_seen as profile_fault_seen, is_kept, local_faults, name_faults, entry_faults}
use Rattle.base_meaning.specs.Laws.{numbered_faults}
use Rattle.user_items.specs.Laws.{is_warning_with}
use Rattle.user_items.specs.Reading.{ReadUserFault}
use Rattle.user_items.specs.Parsing.{user_reading_of_text}
use Rattle.user_items.specs.declared.reading.UserCode.{UserCode}
use Rattle.user_items.specs.declared.reading.UserCode.TheVariants as user
use Rattle.user_compiling.specs.declared.fault.ExtendedFault.{ExtendedFault}
use Rattle.user_compiling.specs.declared.fault.ExtendedFault.TheVariants as fault

-- a fault of the profile, or W5: the position of the block, the line in it, and the name
pub data ExtendedSourceFault : Type 0 where
  of_profile : SourceFault → ExtendedSourceFault
  bad_user_defined : (block line : ℕ) (name : List ℕ) → ExtendedSourceFault

-- a fault that holds its name in memory, as plain data
abbrev pub fault_seen : ExtendedFault → ExtendedSourceFault
fault_seen (fault.Profile f) = of_profile (profile_fault_seen f)
fault_seen (fault.BadUserDefined block line name) = bad_user_defined block line (rc_slice_items name)

-- ---- the warnings of the profile that go

-- whether a fault of the profile is the warning of an unknown name that is user-defined
abbrev pub is_user_warning : SourceFault → Bool
is_user_warning f = is_warning_with f.code f.detail

-- ---- what comes in their place

-- what is wrong with the item that has this ordinal, if something is, by the faults that a block has
-- of its user-defined items
abbrev pub own_code : ℕ → List ReadUserFault → Option UserCode
own_code ordinal [] = None
own_code ordinal (f ∷ fs) = if nat_eq f.ordinal ordinal then Some f.code else own_code ordinal fs

-- a fault with this code and detail at the place of another
abbrev pub with_code : SourceFault → Code → SourceFault
with_code f c = record { block = f.block; line = f.line; code = c; detail = f.detail }

-- W5 at the place of a fault, with its detail as its name
abbrev pub bad_at : SourceFault → Option (List ℕ) → List ExtendedSourceFault
bad_at f None = []
bad_at f (Some name) = bad_user_defined f.block f.line name ∷ []

-- what comes in the place of a warning, at its line and with its name: nothing where the item is
-- sound
abbrev pub in_place : SourceFault → Option UserCode → List ExtendedSourceFault
in_place f None = []
in_place f (Some user.UnknownEscape) = of_profile (with_code f code.UnknownEscape) ∷ []
in_place f (Some user.BadUserDefined) = bad_at f f.detail

-- what comes of a fault of the profile that has the ordinal of its item
abbrev pub extended_fault : List ReadUserFault → ℕ × SourceFault → List ExtendedSourceFault
extended_fault own f = if is_user_warning f.1 then in_place f.1 (own_code f.0 own) else of_profile f.1 ∷ []

-- ---- the faults

-- the faults of the items of a block, in item order
abbrev pub extended_item_faults : List Reading → ℕ → List ℕ → List ExtendedSourceFault
extended_item_faults blocks at text =
    flat_map (extended_fault (user_reading_of_text text).faults)
    (numbered_faults blocks at (filter (is_kept false) (reading_of_text text).faults) (reading_of_text text).items)

-- the faults of a block of which this becomes: those of its header, of its names, of its items and
-- of its entry
abbrev pub extended_block_faults : List Reading → ℕ → List ℕ → EntryState → List ExtendedSourceFault
extended_block_faults blocks at text state =
    map of_profile (local_faults true at (reading_of_text text).faults)
    ++ (map of_profile (name_faults blocks at (reading_of_text text).names)
    ++ (extended_item_faults blocks at text
    ++ map of_profile (entry_faults at (reading_of_text text).names state)))

-- the faults of the blocks from that position on, of which this becomes
abbrev pub extended_faults_after : List Reading → ℕ → List (List ℕ) → List EntryState → List ExtendedSourceFault
extended_faults_after blocks at [] states = []
extended_faults_after blocks at (text ∷ texts) [] = []
extended_faults_after blocks at (text ∷ texts) (state ∷ states) =
    extended_block_faults blocks at text state ++ extended_faults_after blocks (suc at) texts states

-- the faults of a source that is read by a rule, of whose blocks this becomes
abbrev pub extended_faults_by : Rule → List (List ℕ) → List EntryState → List ExtendedSourceFault
extended_faults_by rule texts states = extended_faults_after (readings_by rule texts) 0 texts states

-- the same of a source that is read by the rule `Leftmost`
abbrev pub extended_faults : List (List ℕ) → List EntryState → List ExtendedSourceFault
extended_faults texts states = extended_faults_by Leftmost texts states

-- ---- what a fault says

-- the position of its block
abbrev pub block_of : ExtendedSourceFault → ℕ
block_of (of_profile f) = f.block
block_of (bad_user_defined block line name) = block

-- the line in its block
abbrev pub line_of : ExtendedSourceFault → ℕ
line_of (of_profile f) = f.line
line_of (bad_user_defined block line name) = line

-- whether it is an error; W5 is a warning
abbrev pub is_error_there : ExtendedSourceFault → Bool
is_error_there (of_profile f) = is_error f.code
is_error_there (bad_user_defined block line name) = false
