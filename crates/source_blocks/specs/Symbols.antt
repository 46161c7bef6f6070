-- The blocks of a document as its outline (own; Language Server Protocol 3.17, "DocumentSymbol").
use Rattle.std.specs.Prelude.{ℕ, ◌≡◌, ◌<◌, ◌≤◌, ◌⊎◌, ◌+◌, ◌-◌, All, List, [], ◌∷◌, length}
use Rattle.std.specs.String.{string_bytes}
use Rattle.ti_text.specs.Lines.{line_count}
use Rattle.ti_source.specs.Parsing.{reading_of_text}
use Rattle.base_meaning.specs.Report.{shown_detail}
use Rattle.source_spans.specs.Subjects.{head_span, head_text}
use Rattle.source_types.specs.declared.places.Position.{Position}
use Rattle.source_types.specs.declared.places.Range.{Range}
use Rattle.source_document.specs.Documents.{held}
use Rattle.source_blocks.specs.Spots.{head_line, range_in}
use Rattle.source_blocks.specs.declared.symbols.Symbol.{Symbol}

-- a symbol as plain data: its name, the part of the text that is its block, and the names field of
-- that
pub record SymbolSeen : Type 0 where
  pub name : List ℕ
  pub range : Range
  pub selection : Range

-- a symbol that holds its name in memory, as plain data
abbrev pub symbol_seen : Symbol → SymbolSeen
symbol_seen symbol = record { name = string_bytes symbol.name; range = symbol.range; selection = symbol.selection }

-- the first of some names, or a field if there is none, as a report shows it
abbrev pub shown_name : List (List ℕ) → List ℕ → List ℕ
shown_name [] field = shown_detail field
shown_name (name ∷ names) field = shown_detail name

-- the symbol of a block that begins on that line: up to the newline that ends it
abbrev pub symbol_at : ℕ → List ℕ → SymbolSeen
symbol_at line block = record {
  name = shown_name (reading_of_text block).names (head_text block);
  range = range_in line block (record { start = 0; end = length block - 1 });
  selection = range_in line block (head_span block);
}

-- the symbols of blocks, the first of which begins on that line
abbrev pub symbols_from : ℕ → List (List ℕ) → List SymbolSeen
symbols_from line [] = []
symbols_from line (block ∷ blocks) = symbol_at line block ∷ symbols_from (line + line_count block) blocks

-- the symbols of a document
abbrev pub symbols_of : List ℕ → List SymbolSeen
symbols_of text = symbols_from (head_line text) (held text)

-- ---- what is selected of a block

-- a place is not after another
abbrev pub IsUpTo : Position → Position → Type 0
IsUpTo one other = (one.line < other.line) ⊎ ((one.line ≡ other.line) × (one.column ≤ other.column))

-- a part of a text is in another
abbrev pub IsInside : Range → Range → Type 0
IsInside part whole = IsUpTo whole.start part.start × IsUpTo part.end whole.end

-- the names field of each block is in the block, as the protocol asks
abbrev pub SelectionsAreInside : Type 0
SelectionsAreInside = (text : List ℕ) → All (λ (symbol : SymbolSeen). IsInside symbol.selection symbol.range) (symbols_of text)
