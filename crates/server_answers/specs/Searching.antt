-- The entries of a source whose names hold a text (LSP 3.17, "Workspace Symbols Request"), whatever
-- the case of its letters.
use Rattle.std.specs.Prelude.{ℕ, ◌==◌, ◌&&◌, ◌||◌, Bool, true, false, List, [], ◌∷◌, if◌then◌else◌}
use Rattle.std.specs.Char.{to_ascii_lowercase}
use Rattle.std.specs.List.{flat_map}
use Rattle.serde_json.specs.Data.{Data}
use Rattle.lsp_values.specs.Shapes.{symbol_information_data}
use Rattle.source_blocks.specs.Symbols.{SymbolSeen, symbols_of}

-- whether a text begins with one
abbrev pub begins_alike : (held text : List ℕ) → Bool
begins_alike [] text = true
begins_alike (x ∷ xs) [] = false
begins_alike (x ∷ xs) (y ∷ ys) = to_ascii_lowercase y == to_ascii_lowercase x && begins_alike xs ys

-- whether a name holds a text
abbrev pub holds : (held name : List ℕ) → Bool
holds held [] = begins_alike held []
holds held (y ∷ ys) = begins_alike held (y ∷ ys) || holds held ys

-- an entry ("SymbolInformation"), if its name in the outline holds a text
abbrev pub found_symbols : List ℕ → List ℕ → SymbolSeen → List Data
found_symbols uri held symbol = if holds held symbol.name then symbol_information_data uri symbol.name symbol.range ∷ [] else []

-- the entries whose names hold a text
abbrev pub symbols_found : List ℕ → List ℕ → List SymbolSeen → List Data
symbols_found uri held all = flat_map (found_symbols uri held) all

-- the same of a source
abbrev pub searched : List ℕ → List ℕ → List ℕ → List Data
searched text uri held = symbols_found uri held (symbols_of text)
