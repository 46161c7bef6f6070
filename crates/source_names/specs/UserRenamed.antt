-- What a rename leaves as it is of user-defined capabilities (own): of blocks before and after it,
-- each has the user-defined values that it had.
use Rattle.std.specs.Prelude.{ℕ, ◌≡◌, List, map, Some, slice_get}
use Rattle.base_meaning.specs.Owner.{readings}
use Rattle.user_items.specs.Parsing.{user_reading_of_text}
use Rattle.user_items.specs.Reading.{ReadUserItem, UserBlock}
use Rattle.user_items.specs.Verdicts.{UserSaid, says, imports}
use Rattle.user_values.specs.Expansion.{expansion, user_value}
use Rattle.source_names.specs.Renamed.{IsAccepted, renamed_name}

-- what becomes of what an item gives to user-defined capabilities
abbrev pub renamed_user_said : (name new : List ℕ) → UserSaid → UserSaid
renamed_user_said name new (says n content) = says n content
renamed_user_said name new (imports used) = imports (renamed_name name new used)

-- a block before and after a rename, as far as user-defined capabilities go: its uses become the new
-- ones. The lines of its items may be others.
abbrev pub IsUserRenamed : (name new : List ℕ) → (block other : UserBlock) → Type 0
IsUserRenamed name new block other =
    map (λ (item : ReadUserItem). item.said) other.items ≡ map (λ (item : ReadUserItem). renamed_user_said name new item.said) block.items

-- the texts of blocks before and after a rename that is accepted: the block at that position owns
-- the name, and the new one is not taken
pub record AreAccepted (blocks others : List (List ℕ)) (at : ℕ) (name new : List ℕ) : Type 0 where
  pub read : IsAccepted (readings blocks) (readings others) at name new
  pub user : (place : ℕ) (block other : List ℕ) → slice_get blocks place ≡ Some block → slice_get others place ≡ Some other
      → IsUserRenamed name new (user_reading_of_text block) (user_reading_of_text other)

-- ---- laws

-- each block says of user-defined capabilities what it said once its uses are expanded
abbrev pub BlocksSayOfUsersWhatTheyDid : Type 0
BlocksSayOfUsersWhatTheyDid =
    (blocks others : List (List ℕ)) (at : ℕ) (name new : List ℕ) → AreAccepted blocks others at name new
    → (place : ℕ) (block other : List ℕ) → slice_get blocks place ≡ Some block → slice_get others place ≡ Some other
    → expansion others other ≡ expansion blocks block

-- so each block has the user-defined values that it had
abbrev pub UserValuesStay : Type 0
UserValuesStay =
    (blocks others : List (List ℕ)) (at : ℕ) (name new : List ℕ) → AreAccepted blocks others at name new
    → (place : ℕ) (capability : List ℕ) → user_value others place capability ≡ user_value blocks place capability
