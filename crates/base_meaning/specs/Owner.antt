-- Which block owns a name (own): a name belongs to the first block of the source that has it among
-- its lookup names, whether that block is sound or broken. A block whose header is bad has no
-- lookup names, and so owns none.
use Rattle.std.specs.Prelude.{ℕ, suc, List, [], ◌∷◌, Option, Some, None, option_map, Bool, false, nat_eq, if◌then◌else◌}
use Rattle.std.specs.List.{list_any}
use Rattle.std.specs.Option.{option_map_or}
use Rattle.std.specs.Str.{bytes_eq}
use Rattle.ti_source.specs.declared.parsing.Rule.TheVariants.{Leftmost}
use Rattle.ti_source.specs.Reading.{Reading}
use Rattle.base_meaning.specs.Readings.{readings_by}

-- the blocks of a source as they are read, from their texts: by the rule `Leftmost`
abbrev pub readings : List (List ℕ) → List Reading
readings texts = readings_by Leftmost texts

-- whether a name is one of these
abbrev pub is_among : List ℕ → List (List ℕ) → Bool
is_among name names = list_any (λ other. bytes_eq name other) names

-- the least position of the blocks that has the name, if there is one
abbrev pub owner : List Reading → List ℕ → Option ℕ
owner [] name = None
owner (block ∷ blocks) name = if is_among name block.names then Some 0 else option_map (λ at. suc at) (owner blocks name)

-- the block at that position
abbrev pub owner_block : List Reading → List ℕ → Option Reading
owner_block [] name = None
owner_block (block ∷ blocks) name = if is_among name block.names then Some block else owner_block blocks name

-- whether the name belongs to the block at that position
abbrev pub is_owner : List Reading → List ℕ → ℕ → Bool
is_owner blocks name at = option_map_or (λ place. nat_eq place at) (owner blocks name) false
