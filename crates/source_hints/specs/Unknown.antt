-- User-defined names that are not known (own; N8): names that user_caps(5), and the sources of
-- terminals, do not have, and that are most likely misspelled.
use Rattle.std.specs.Prelude.{ℕ, ◌&&◌, not, Bool, List, [], ◌∷◌, Option, None, Some, flat_map, if◌then◌else◌}
use Rattle.std.specs.Option.{is_some}
use Rattle.ti_source.specs.Folding.{PlacedByte}
use Rattle.ti_source.specs.Items.{bytes}
use Rattle.user_items.specs.Names.{is_user_defined_name}
use Rattle.source_descriptions.specs.UserDescriptions.{user_described}
use Rattle.source_spans.specs.Folding.{folded_of}
use Rattle.source_spans.specs.Parts.{spanned}
use Rattle.source_spans.specs.Subjects.{items_of, span_or_start, without_end}
use Rattle.source_spans.specs.Touching.{name_of}
use Rattle.source_spans.specs.declared.parts.Part.{Part}
use Rattle.source_block_hints.specs.declared.hint.Hint.{Hint}
use Rattle.source_block_hints.specs.declared.hint.HintKind.TheVariants.{UnknownName}

-- a name is user-defined, and is not known
abbrev pub is_unknown_name : List ℕ → Bool
is_unknown_name name = is_user_defined_name name && not (is_some (user_described name))

-- the hint on an item that is there and has its name there
abbrev pub unknown_hint : Option Part → Option Part → List Hint
unknown_hint None name = []
unknown_hint (Some item) None = []
unknown_hint (Some item) (Some name) =
    record { kind = UnknownName; start = item.start; end = item.end; detail_start = name.start; detail_end = name.end } ∷ []

-- the hint on an item with this name, if the name is unknown
abbrev pub unknown_if : List PlacedByte → List PlacedByte → List Hint
unknown_if item name = if is_unknown_name (bytes name) then unknown_hint (spanned item) (spanned name) else []

-- the hint on an item, if its name is unknown
abbrev pub unknown_in : List PlacedByte → List Hint
unknown_in item = unknown_if item (name_of (without_end item))

-- the hints on the items of a block
abbrev pub unknown_names : List ℕ → List Hint
unknown_names block = flat_map unknown_in (items_of (folded_of block))
