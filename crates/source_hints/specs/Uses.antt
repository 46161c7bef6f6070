-- An item after a `use=` whose entry says its capability too (terminfo(5), "Similar Terminals"): the
-- leftmost counts (own).
use Rattle.std.specs.Prelude.{ℕ, Bool, true, false, not, ◌&&◌, is_some, List, [], ◌∷◌, ◌++◌, length, map, slice_get, Option, None, Some, option_and_then, option_to_list, if◌then◌else◌}
use Rattle.std.specs.List.{list_any}
use Rattle.ti_caps.specs.Tables.{Capability}
use Rattle.ti_source.specs.Folding.{PlacedByte}
use Rattle.ti_source.specs.Items.{Statement, bytes, without_outer_space}
use Rattle.ti_source.specs.Reading.{Reading}
use Rattle.ti_source.specs.Stating.{statement_of}
use Rattle.ti_source.specs.Verdicts.{claimed_text, is_import}
use Rattle.ti_layout.specs.Values.{Content, Mention, contents}
use Rattle.base_meaning.specs.Expansion.{expansion}
use Rattle.base_meaning.specs.Owner.{owner, readings}
use Rattle.source_spans.specs.Folding.{folded_of}
use Rattle.source_spans.specs.Subjects.{items_of}
use Rattle.source_block_hints.specs.Blocks.{hint_on}
use Rattle.source_block_hints.specs.Mentions.{is_among, mention_in, number_said}
use Rattle.source_block_hints.specs.declared.found.Found.{Found}
use Rattle.source_block_hints.specs.declared.hint.Hint.{Hint}
use Rattle.source_block_hints.specs.declared.hint.HintKind.TheVariants.{SaidAfterUse}

-- what a block says of a capability once its uses are expanded, also that it is cancelled
abbrev pub said_of : List Reading → Capability → Reading → Option Content
said_of blocks c block = option_and_then (λ (mentions : List Mention). contents mentions c) (expansion blocks block)

-- the same of the block at a position
abbrev pub said_at : List Reading → Capability → ℕ → Option Content
said_at blocks c at = option_and_then (said_of blocks c) (slice_get blocks at)

-- whether one of the blocks at these positions says a capability
abbrev pub one_says : List Reading → Capability → List ℕ → Bool
one_says blocks c uses = list_any (λ at. is_some (said_at blocks c at)) uses

-- the same, if there is a capability
abbrev pub use_says : List Reading → List ℕ → Option Capability → Bool
use_says blocks uses None = false
use_says blocks uses (Some c) = one_says blocks c uses

-- the block that owns the name that a statement uses
abbrev pub owner_used : List Reading → Option Statement → Option ℕ
owner_used blocks None = None
owner_used blocks (Some s) = if is_import s.name s.claim then owner blocks (without_outer_space (claimed_text s.claim)) else None

-- the block that owns the name that the text of an item uses
abbrev pub owner_in : List Reading → List ℕ → Option ℕ
owner_in blocks text = owner_used blocks (statement_of text)

-- whether an item of this text is after a use that has its capability, and no item before says it
abbrev pub is_after_use : List Reading → List ℕ → List ℕ → List ℕ → Bool
is_after_use blocks said uses text = not (is_among said (number_said text)) && use_says blocks uses (mention_in text)

-- an item of this statement that a use before it has: its name is quoted
abbrev pub after_found : Bool → Option Statement → List Found
after_found true (Some s) = record { kind = SaidAfterUse; part = record { start = 0; end = length s.name } } ∷ []
after_found said statement = []

-- the hints on an item, if items before it say the capabilities of these numbers and use the blocks
-- at these positions: a capability that an item before says is said twice, and not after a use
abbrev pub use_hints : List Reading → List ℕ → List ℕ → List PlacedByte → List Hint
use_hints blocks said uses item =
    map (hint_on item) (after_found (is_after_use blocks said uses (bytes item)) (statement_of (bytes item)))

-- the hints on items
abbrev pub hints_from : List Reading → List ℕ → List ℕ → List (List PlacedByte) → List Hint
hints_from blocks said uses [] = []
hints_from blocks said uses (item ∷ items) =
    use_hints blocks said uses item
    ++ hints_from blocks (said ++ option_to_list (number_said (bytes item))) (uses ++ option_to_list (owner_in blocks (bytes item))) items

-- the hints on the items of a text, one of the blocks of a source
abbrev pub text_hints : List (List ℕ) → Option (List ℕ) → List Hint
text_hints texts None = []
text_hints texts (Some text) = hints_from (readings texts) [] [] (items_of (folded_of text))

-- the hints on the items of the block at a position that are after a use
unfoldable pub after_uses : List (List ℕ) → ℕ → List Hint
after_uses texts at = text_hints texts (slice_get texts at)
