-- What becomes of each block, as it is in memory.
use Rattle.std.specs.Prelude.{ℕ, List, [], ◌∷◌, map, Option, Some, None}
use Rattle.std.specs.Global.{Vec}
use Rattle.std.specs.Option.{option_map}
use Rattle.ti_source.specs.declared.parsing.Rule.{Rule}
use Rattle.base_meaning.specs.Compiled.{EntryState, written}
use Rattle.user_compiling.specs.Entries.{state_seen}
use Rattle.user_compiling.specs.Laws.{profile_states_by}
use Rattle.user_compiling.specs.declared.compiled.Compiled.{Compiled}

-- that of the profile, or what was compiled with user-defined capabilities
abbrev pub states_of : Rule → List (List ℕ) → Option (List Compiled) → List EntryState
states_of rule texts None = profile_states_by rule texts
states_of rule texts (Some compiled) = map state_seen compiled

-- entries in memory, each in the place of one or none
abbrev pub others_seen : List (Option (Vec ℕ)) → List (Option (List ℕ))
others_seen others = map (λ o. option_map (λ v. v.items) o) others

-- what is in an option that may be there
abbrev pub option_flat : Option (Option (List ℕ)) → Option (List ℕ)
option_flat None = None
option_flat (Some o) = o

-- an entry in the place of what became of a block, if there is one
abbrev pub put : EntryState → Option (List ℕ) → EntryState
put state None = state
put state (Some bytes) = written bytes

-- entries in the places of what became of these blocks
abbrev pub over : List EntryState → List (Option (List ℕ)) → List EntryState
over [] others = []
over (state ∷ states) [] = state ∷ states
over (state ∷ states) (other ∷ others) = put state other ∷ over states others
