-- What the entry of a block holds, as an editor shows it (own): how many capabilities of each kind
-- have a value, and how many bytes it takes; or why there is no entry.
use Rattle.std.specs.Prelude.{ℕ, zero, suc, List, length, Option, None, Some, if◌then◌else◌, slice_get}
use Rattle.std.specs.Option.{option_map_or}
use Rattle.ti_caps.specs.Tables.{count_of}
use Rattle.ti_caps.specs.declared.capability.Kind.TheVariants.{Flag, Number, Text}
use Rattle.ti_source.specs.Reading.{Reading}
use Rattle.ti_layout.specs.Image.{ByIndex, is_there, of_kind}
use Rattle.ti_layout.specs.Values.{Contents, Mention}
use Rattle.base_meaning.specs.Compiled.{image_of, is_too_large}
use Rattle.base_meaning.specs.Expansion.{expansion, values}
use Rattle.base_meaning.specs.Owner.{owner, readings}
use Rattle.source_document.specs.Diagnostics.{Shown, diagnostic_seen}
use Rattle.source_document.specs.Documents.{held}
use Rattle.source_blocks.specs.Causes.{cause_told}
use Rattle.source_blocks.specs.declared.holdings.Entry.{Entry}
use Rattle.source_blocks.specs.declared.holdings.Entry.TheVariants.{Missing, Faulty, Held}
use Rattle.source_blocks.specs.declared.holdings.Holding.{Holding}

-- how many of the indices below n have a value
unfoldable pub count_there : ByIndex → ℕ → ℕ
count_there by_index zero = 0
count_there by_index (suc n) = if is_there (by_index n) then suc (count_there by_index n) else count_there by_index n

-- what an entry of these contents holds, which takes so many bytes
abbrev pub holding : Contents → ℕ → Holding
holding contents size = record {
  flags = count_there (of_kind contents Flag) (count_of Flag);
  numbers = count_there (of_kind contents Number) (count_of Number);
  texts = count_there (of_kind contents Text) (count_of Text);
  bytes = size;
}

-- what became of a name, as plain data: no block has it; the block that owns it has no entry, for
-- this cause, as the diagnostic shows it; or has one, which holds this
pub data EntrySeen : Type 0 where
  entry_missing : EntrySeen
  entry_faulty : Option Shown → EntrySeen
  entry_held : Holding → EntrySeen

-- what holds its cause in memory, as plain data
abbrev pub entry_seen : Entry → EntrySeen
entry_seen Missing = entry_missing
entry_seen (Faulty cause) = entry_faulty (Some (diagnostic_seen cause))
entry_seen (Held holding) = entry_held holding

-- the entry of a block, given the cause if it has none, and what it says once its uses are
-- expanded; a block that does not resolve has none, nor has one whose entry is over the limit
abbrev pub entry_with : Option Shown → Reading → Option (List Mention) → EntrySeen
entry_with cause block None = entry_faulty cause
entry_with cause block (Some mentions) =
    if is_too_large block mentions then entry_faulty cause else entry_held (holding (values mentions) (length (image_of block mentions)))

-- the entry of a block of the list, if there is one
abbrev pub entry_of : List Reading → Option Shown → Option Reading → EntrySeen
entry_of blocks cause None = entry_missing
entry_of blocks cause (Some block) = entry_with cause block (expansion blocks block)

-- the entry of the block at that position of a text
abbrev pub entry_at : List ℕ → ℕ → EntrySeen
entry_at text at = entry_of (readings (held text)) (cause_told text at) (slice_get (readings (held text)) at)

-- the entry of the block of a text that owns a name
abbrev pub entry_named : List ℕ → List ℕ → EntrySeen
entry_named text name = option_map_or (entry_at text) (owner (readings (held text)) name) entry_missing
