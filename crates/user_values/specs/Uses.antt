-- Which blocks use each other, as a graph.
use Rattle.std.specs.Prelude.{ℕ, List, map, Option, None}
use Rattle.base_components.specs.Graph.{Rows}
use Rattle.base_meaning.specs.Owner.{owner, readings}
use Rattle.user_items.specs.Verdicts.{UserSaid, says, imports}
use Rattle.user_items.specs.Reading.{ReadUserItem, UserBlock}
use Rattle.user_items.specs.Parsing.{user_reading_of_text}

-- the position of the block that an item uses
abbrev pub used_block : List (List ℕ) → UserSaid → Option ℕ
used_block texts (imports name) = owner (readings texts) name
used_block texts (says name content) = None

abbrev pub edge_of : List (List ℕ) → ReadUserItem → Option ℕ
edge_of texts item = used_block texts item.said

-- a row for each block, with an edge for each item
abbrev pub row_of : List (List ℕ) → List ReadUserItem → List (Option ℕ)
row_of texts items = map (edge_of texts) items

abbrev pub rows_of : List (List ℕ) → List UserBlock → Rows
rows_of texts blocks = map (λ block. row_of texts block.items) blocks

-- the graph of the uses of a source
abbrev pub uses_of : List (List ℕ) → Rows
uses_of texts = rows_of texts (map user_reading_of_text texts)
