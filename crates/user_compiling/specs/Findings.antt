-- What is found out about a block for its faults (own).
use Rattle.std.specs.Prelude.{◌≡◌, ◌⊎◌, ℕ, Bool, true, false, if◌then◌else◌, List, [], ◌∷◌, length, Option, Some, slice_get}
use Rattle.ti_source.specs.Reading.{ReadFault}
use Rattle.ti_source.specs.Parsing.{reading_of_text}
use Rattle.base_meaning.specs.Compiled.{EntryState, unresolved, oversized, written}
use Rattle.user_items.specs.Laws.{is_local_warning}
use Rattle.user_items.specs.Reading.{ReadUserFault}
use Rattle.user_items.specs.Parsing.{user_reading_of_text}
use Rattle.user_items.specs.declared.reading.UserCode.{UserCode}
use Rattle.user_compiling.specs.Faults.{own_code}
use Rattle.user_compiling.specs.declared.finding.Finding.{Finding}

-- ---- what is wrong with the items that define names

-- for each warning among these that a name is unknown which is user-defined, what is wrong with its
-- item, if something is
abbrev pub warning_codes : List ReadUserFault → List ReadFault → List (Option UserCode)
warning_codes own [] = []
warning_codes own (f ∷ fs) = if is_local_warning f then own_code f.ordinal own ∷ warning_codes own fs else warning_codes own fs

-- these are the codes of the warnings of a block, or none, and nothing is wrong with any item
abbrev pub AreCodesOf : List ℕ → List (Option UserCode) → Type 0
AreCodesOf text codes =
    (codes ≡ warning_codes (user_reading_of_text text).faults (reading_of_text text).faults)
    ⊎ ((codes ≡ []) × ((user_reading_of_text text).faults ≡ []))

-- ---- what is found out

-- whether the entry of a block is over its limit
abbrev pub is_over_limit : EntryState → Bool
is_over_limit unresolved = false
is_over_limit oversized = true
is_over_limit (written bytes) = false

-- this is found out about a block of which that becomes
pub record IsFindingBy (text : List ℕ) (state : EntryState) (finding : Finding) : Type 0 where
  pub too_large : finding.is_too_large ≡ is_over_limit state
  pub codes : AreCodesOf text finding.codes.items

-- these are found out about the blocks of a source, of which those become
abbrev pub AreFindingsBy : List (List ℕ) → List EntryState → List Finding → Type 0
AreFindingsBy texts states findings =
    (length states ≡ length texts)
    × ((at : ℕ) (text : List ℕ) (state : EntryState) (finding : Finding) → slice_get texts at ≡ Some text → slice_get states at ≡ Some state
    → slice_get findings at ≡ Some finding → IsFindingBy text state finding)
