-- What is written of the blocks of a source with the constants of their strings as characters
-- (terminfo(5), "Parameterized Strings"; tic(1)).
use Rattle.std.specs.Prelude.{◌≡◌, ℕ, Bool, true, false, List}
use Rattle.std.specs.List.{AllZip}
use Rattle.base_meaning.specs.Compiled.{EntryState, oversized, unresolved, written}
use Rattle.everyday_constants.specs.Entries.{IsWithCharacters}

-- what is written of a block of which this would be
abbrev pub IsStateWithCharacters : EntryState → EntryState → Type 0
IsStateWithCharacters unresolved other = other ≡ unresolved
IsStateWithCharacters oversized other = other ≡ oversized
IsStateWithCharacters (written bytes) other = (made : List ℕ) × (other ≡ written made) × IsWithCharacters bytes made

-- what is written of each block; a source that is only checked gets no files, and so no characters
abbrev pub AreWithCharacters : Bool → List EntryState → List EntryState → Type 0
AreWithCharacters true states others = others ≡ states
AreWithCharacters false states others = AllZip IsStateWithCharacters states others
