-- The blocks that a document holds (own).
use Rattle.std.specs.Prelude.{ℕ, ◌≤◌, All, List, [], Option, Some, None, length}
use Rattle.ti_text.specs.Limits.{block_bytes_max, blocks_max}
use Rattle.ti_source.specs.Cutting.{OneBlock}
use Rattle.tools_sources.specs.Sources.{source_refusal, source_texts}
use Rattle.tools_sources.specs.declared.source_error.SourceError.{SourceError}

-- the blocks, or none if the source is refused
abbrev pub unless_refused : Option SourceError → List (List ℕ) → List (List ℕ)
unless_refused None blocks = blocks
unless_refused (Some error) blocks = []

-- the blocks of a text, or none if the source is refused
abbrev pub held : List ℕ → List (List ℕ)
held text = unless_refused (source_refusal text) (source_texts text)

-- one block that is not too long: a list takes it wherever it has room
abbrev pub IsShortBlock : List ℕ → Type 0
IsShortBlock text = (length text ≤ block_bytes_max) × OneBlock text

-- the blocks that are held are short, and no more than a list may have
abbrev pub HeldBlocksFit : Type 0
HeldBlocksFit = (text : List ℕ) → (length (held text) ≤ blocks_max) × All IsShortBlock (held text)
