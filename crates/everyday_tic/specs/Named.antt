-- What is written of the blocks of a source with names fields that are too long for the profile
-- (term(5), tic(1)): each entry with its whole names field.
use Rattle.std.specs.Prelude.{ℕ, List, [], ◌∷◌, Option, Some, None}
use Rattle.ti_text.specs.Limits.{extended_entry_max}
use Rattle.base_meaning.specs.Compiled.{EntryState, oversized, unresolved, written}
use Rattle.everyday_graphics.specs.Entries.{in_place}
use Rattle.everyday_names.specs.Entries.{with_names}

-- what is written of a block with this names field, if it is given one: its entry with that field, if
-- it is then within the limit of an entry file in the extended number format, which ncurses's reader
-- has for both formats
abbrev pub named_state : Option (List ℕ) → EntryState → EntryState
named_state None state = state
named_state (Some field) unresolved = unresolved
named_state (Some field) oversized = oversized
named_state (Some field) (written bytes) = in_place (written bytes) extended_entry_max (with_names field bytes)

-- what is written of blocks, of which the first have these
abbrev pub named_states : List (Option (List ℕ)) → List EntryState → List EntryState
named_states [] states = states
named_states (field ∷ fields) [] = []
named_states (field ∷ fields) (state ∷ states) = named_state field state ∷ named_states fields states
