-- What an edit leaves of what was found out (own).
use Rattle.std.specs.Prelude.{ℕ, ◌≡◌, List, Some, Contains, slice_get}
use Rattle.base_meaning.specs.Dependents.{Rebuilds}
use Rattle.base_meaning.specs.Edits.{Change, EditStep}
use Rattle.base_meaning.specs.declared.edits.Outcome.TheVariants.{Accepted}
use Rattle.user_kept.specs.Untouched.{IsUntouched}

-- each block that an accepted edit does not rebuild is untouched by it: it stood in the source before,
-- and says what it said
abbrev pub BlocksNotRebuiltAreUntouched : Type 0
BlocksNotRebuiltAreUntouched =
    (texts next : List (List ℕ)) (change : Change) (rebuilt : List ℕ) (steps : ℕ) → EditStep texts change Accepted next → Rebuilds texts change rebuilt steps
    → (at : ℕ) (text : List ℕ) → slice_get next at ≡ Some text → ¬ (Contains rebuilt at) → IsUntouched texts change at text
