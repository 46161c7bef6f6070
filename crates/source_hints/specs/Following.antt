-- Whether an item that says a capability comes after a `use=`, so that it may be one that the use says
-- too (own).
use Rattle.std.specs.Prelude.{◌≡◌, ℕ, Bool, false, ◌&&◌, ◌||◌, is_some, List, [], ◌∷◌, Option, None, Some, slice_get}
use Rattle.ti_source.specs.Folding.{PlacedByte}
use Rattle.ti_source.specs.Items.{Statement, bytes}
use Rattle.ti_source.specs.Stating.{statement_of}
use Rattle.ti_source.specs.Verdicts.{is_import}
use Rattle.source_spans.specs.Folding.{folded_of}
use Rattle.source_spans.specs.Subjects.{items_of}
use Rattle.source_block_hints.specs.Mentions.{mention_in}
use Rattle.source_hints.specs.Uses.{after_uses}

-- whether a statement is a use
abbrev pub states_use : Option Statement → Bool
states_use None = false
states_use (Some s) = is_import s.name s.claim

-- whether one of these items says a capability after a use, if a use is before them or not
abbrev pub says_after : Bool → List (List PlacedByte) → Bool
says_after used [] = false
says_after used (item ∷ items) =
    (used && is_some (mention_in (bytes item))) || says_after (used || states_use (statement_of (bytes item))) items

-- whether an item of a block says a capability after a use
unfoldable pub says_after_use : List ℕ → Bool
says_after_use block = says_after false (items_of (folded_of block))

-- In whatever source it is, only such a block has a hint on an item after a use.
abbrev pub OthersHaveNoHintAfterUses : Type 0
OthersHaveNoHintAfterUses =
    (texts : List (List ℕ)) (at : ℕ) (text : List ℕ) → slice_get texts at ≡ Some text → says_after_use text ≡ false → after_uses texts at ≡ []
