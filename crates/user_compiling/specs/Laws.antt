-- Laws of compiling with user-defined capabilities: without them all is as in the profile.
use Rattle.std.specs.Prelude.{◌≡◌, ℕ, List, [], map, Some, slice_get}
use Rattle.std.specs.List.{flat_map}
use Rattle.ti_source.specs.declared.parsing.Rule.{Rule}
use Rattle.ti_source.specs.declared.parsing.Rule.TheVariants.{Leftmost}
use Rattle.ti_source.specs.Parsing.{reading_of_text}
use Rattle.base_meaning.specs.Readings.{reading_by, readings_by}
use Rattle.base_meaning.specs.Compiled.{EntryState, state_of, compiled_by}
use Rattle.base_meaning.specs.Faults.{faults}
use Rattle.base_meaning.specs.Report.{report_by}
use Rattle.user_items.specs.Laws.{user_warning}
use Rattle.user_compiling.specs.Entries.{AreStatesBy, entry_in}
use Rattle.user_compiling.specs.Faults.{of_profile, extended_faults_by}
use Rattle.user_compiling.specs.Report.{extended_report_by}

-- no block has the warning of an unknown name that is user-defined: by the law of `user_items`, no
-- item defines such a name
abbrev pub DefineNoNames : List (List ℕ) → Type 0
DefineNoNames texts = (at : ℕ) (text : List ℕ) → slice_get texts at ≡ Some text → flat_map user_warning (reading_of_text text).faults ≡ []

-- what becomes of each block in the profile, by a rule
abbrev pub profile_states_by : Rule → List (List ℕ) → List EntryState
profile_states_by rule texts = map (λ text. state_of (readings_by rule texts) (reading_by rule text)) texts

-- the same by the rule `Leftmost`
abbrev pub profile_states : List (List ℕ) → List EntryState
profile_states texts = profile_states_by Leftmost texts

-- by any rule, of a source without user-defined names the same becomes as in the profile, with the
-- same entries, faults and report
pub record PlainSourcesAreAsInTheProfile : Type 0 where
  pub states : (rule : Rule) (texts : List (List ℕ)) (states : List EntryState) → DefineNoNames texts → AreStatesBy rule texts states
      → states ≡ profile_states_by rule texts
  pub entries : (rule : Rule) (texts : List (List ℕ)) (at : ℕ) (text : List ℕ) → slice_get texts at ≡ Some text
      → entry_in (state_of (readings_by rule texts) (reading_by rule text)) ≡ compiled_by rule texts at
  pub faults : (rule : Rule) (texts : List (List ℕ)) → DefineNoNames texts
      → extended_faults_by rule texts (profile_states_by rule texts) ≡ map of_profile (faults (readings_by rule texts))
  pub report : (rule : Rule) (texts : List (List ℕ)) (first : ℕ) → DefineNoNames texts
      → extended_report_by rule texts (profile_states_by rule texts) first ≡ report_by rule texts first
