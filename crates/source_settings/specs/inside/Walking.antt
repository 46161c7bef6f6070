-- What is allowed on the lines of a text before one.
use Rattle.std.specs.Prelude.{◌≡◌, ℕ, ◌-◌, Bool, true, List, [], min}
use Rattle.source_settings.specs.Comments.{allowed_before, allowed_on}
use Rattle.source_settings.specs.inside.Latest.{latest}
use Rattle.source_settings.specs.declared.walking.Allowance.{Allowance}

-- these are allowed on each line before that of a number, and on each line after that on the last of them;
-- the lines right before that line allow these codes
pub record IsWalk (text : List ℕ) (number : ℕ) (all : List Allowance) (above : List (List ℕ)) (quiet : Bool) : Type 0 where
  pub allowed : (line : ℕ) → latest [] all line ≡ allowed_on text (min line (number - 1))
  pub before : above ≡ allowed_before text number
  pub is_quiet : quiet ≡ true → allowed_on text (number - 1) ≡ []
