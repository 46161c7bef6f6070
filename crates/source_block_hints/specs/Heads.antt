-- A head that holds an item (own): after its last bar, or on a line after its first, up to its
-- comma, are the name of a capability and what an item of it may say.
use Rattle.ti_text.specs.Ascii as ascii
use Rattle.std.specs.Prelude.{ℕ, ◌+◌, ◌==◌, List, [], ◌∷◌, drop, length, Option, None, Some, if◌then◌else◌}
use Rattle.std.specs.Option.{is_some, option_or}
use Rattle.ti_source.specs.Folding.{PlacedByte}
use Rattle.ti_source.specs.Items.{bytes}
use Rattle.source_block_hints.specs.Mentions.{mention_in}
use Rattle.source_block_hints.specs.declared.found.Found.{Found}
use Rattle.source_block_hints.specs.declared.hint.HintKind.TheVariants.{ItemsInHead}

-- where the byte after the last bar is in a text that begins at this offset; what was found before,
-- if it has no bar
abbrev pub after_bar : Option ℕ → ℕ → List PlacedByte → Option ℕ
after_bar found at [] = found
after_bar found at (x ∷ xs) = after_bar (if x.0 == ascii.bar then Some (at + 1) else found) (at + 1) xs

-- where the first byte is, in a text that begins at this offset, that does not follow in the block
-- on the byte before it, which is at `last`: it is on a line of its own
abbrev pub after_break : ℕ → ℕ → List PlacedByte → Option ℕ
after_break last at [] = None
after_break last at (x ∷ xs) = if x.1 == last + 1 then after_break x.1 (at + 1) xs else Some at

-- the item that a head holds from an offset on
abbrev pub item_from : List ℕ → Option ℕ → Option Found
item_from text None = None
item_from text (Some at) =
    if is_some (mention_in (drop at text)) then Some (record { kind = ItemsInHead; part = record { start = at; end = length text } }) else None

-- where a head goes on after a line break
abbrev pub broken_at : List PlacedByte → Option ℕ
broken_at [] = None
broken_at (x ∷ xs) = after_break x.1 1 xs

-- the item that a head holds: on a line after its first, or after its last bar
abbrev pub head_found : List PlacedByte → Option Found
head_found field = option_or (item_from (bytes field) (broken_at field)) (item_from (bytes field) (after_bar None 0 field))
