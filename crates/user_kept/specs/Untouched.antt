-- What an edit leaves of what blocks say of user-defined capabilities (own).
use Rattle.std.specs.Prelude.{ℕ, ◌≡◌, List, Some, slice_get}
use Rattle.ti_source.specs.declared.parsing.Rule.{Rule}
use Rattle.ti_source.specs.Parsing.{reading_of_text}
use Rattle.base_meaning.specs.Owner.{readings}
use Rattle.base_meaning.specs.Expansion.{expansion as expansion_there}
use Rattle.base_meaning.specs.Edits.{Change, IsInPlace, list_after}
use Rattle.base_meaning.specs.Exchange.{exchange_of}
use Rattle.base_meaning.specs.Dependents.{IsDependent}
use Rattle.user_values.specs.Expansion.{expand, expansion, expansion_by}
use Rattle.user_kept.specs.Places.{position_before}

-- what remains of a block that is at this position after the edit: it stood in the source before, and
-- its expansions are the same, that of user-defined capabilities at every depth
pub record IsUntouched (texts : List (List ℕ)) (change : Change) (at : ℕ) (text : List ℕ) : Type 0 where
  pub stood : slice_get texts (position_before change at) ≡ Some text
  pub at_depth : (depth : ℕ) → expand (list_after texts change) depth text ≡ expand texts depth text
  pub user_mentions : expansion (list_after texts change) text ≡ expansion texts text
  pub mentions : expansion_there (readings (list_after texts change)) (reading_of_text text) ≡ expansion_there (readings texts) (reading_of_text text)

-- a block that does not depend on the edit is untouched by it
abbrev pub UntouchedBlocksSayTheSame : Type 0
UntouchedBlocksSayTheSame =
    (texts : List (List ℕ)) (change : Change) (at : ℕ) (text : List ℕ) → IsInPlace texts change → slice_get (list_after texts change) at ≡ Some text
    → ¬ (IsDependent (exchange_of texts change) at) → IsUntouched texts change at text

-- by each rule such a block says of user-defined capabilities what it said
abbrev pub UntouchedBlocksSayTheSameByRule : Type 0
UntouchedBlocksSayTheSameByRule =
    (rule : Rule) (texts : List (List ℕ)) (change : Change) (at : ℕ) (text : List ℕ) → IsInPlace texts change
    → slice_get (list_after texts change) at ≡ Some text → ¬ (IsDependent (exchange_of texts change) at)
    → expansion_by rule (list_after texts change) text ≡ expansion_by rule texts text
