-- What compiling and reporting need of a block as it is read, and of the faults of a source (own).
use Rattle.ti_text.specs.Limits.{block_bytes_max, names_max}
use Rattle.std.specs.Prelude.{ℕ, ◌+◌, ◌≡◌, ◌≢◌, ◌<◌, ◌≤◌, false, [], length, All}
use Rattle.ti_source.specs.Reading.{Reading, ReadItem, ReadFault, Said, said_flag, said_number, said_text, said_cancel, said_import}
use Rattle.ti_layout.specs.Values.{content_true, content_number, content_text, content_cancelled, Agrees, HasNoNul}
use Rattle.base_meaning.specs.Expansion.{is_broken}
use Rattle.base_meaning.specs.Faults.{SourceFault}

-- an item gives its capability a value that fits it
abbrev pub SetsWell : Said → Type 0
SetsWell (said_flag c) = Agrees c content_true
SetsWell (said_number c n) = Agrees c (content_number n)
SetsWell (said_text c t) = Agrees c (content_text t)
SetsWell (said_cancel c) = Agrees c content_cancelled
SetsWell (said_import name) = Unit {0}

-- a line of a text that is no longer than a block may be
abbrev pub IsLine : ℕ → Type 0
IsLine line = (1 ≤ line) × (line ≤ block_bytes_max + 1)

-- a names field that can be written, unless the block is broken; items that fit their capabilities;
-- lines of its text
pub record IsUsable (block : Reading) : Type 0 where
  pub named : is_broken block ≡ false → (block.field ≢ []) × HasNoNul block.field × (length block.field ≤ names_max)
  pub sets : All (λ (item : ReadItem). SetsWell item.said) block.items
  pub item_lines : All (λ (item : ReadItem). IsLine item.line) block.items
  pub fault_lines : All (λ (fault : ReadFault). IsLine fault.line) block.faults

-- a fault is in one of the given number of blocks, on a line that a text can have
abbrev pub IsPlaced : ℕ → SourceFault → Type 0
IsPlaced blocks fault = (fault.block < blocks) × IsLine fault.line
