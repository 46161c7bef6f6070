-- What a block says of user-defined names, added to what was said.
use Rattle.std.specs.Prelude.{ℕ, ◌≡◌, List, Option, Some, slice_get}
use Rattle.std.specs.Option.{option_or}
use Rattle.user_values.specs.Expansion.{UserMention, expansion, first_said}
use Rattle.user_values.specs.Tables.{Said}

-- what these mentions say is said where nothing was
abbrev pub AddsMentions : Option (List UserMention) → Said → Said → Type 0
AddsMentions found old new =
    (mentions : List UserMention) × (found ≡ Some mentions) × ((name : List ℕ) → new name ≡ option_or (old name) (first_said mentions name))

-- what the block at a position says is said where nothing was
abbrev pub AddsBlock : List (List ℕ) → ℕ → Said → Said → Type 0
AddsBlock texts at old new = (text : List ℕ) → slice_get texts at ≡ Some text → AddsMentions (expansion texts text) old new
