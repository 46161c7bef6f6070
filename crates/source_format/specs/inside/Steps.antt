-- The steps of writing a block, and its parts in memory as plain data (own).
use Rattle.std.specs.Prelude.{◌≡◌, ℕ, List, [], ◌∷◌, ◌++◌, true, false, if◌then◌else◌, map}
use Rattle.ti_text.specs.Texts.{is_empty}
use Rattle.ti_source.specs.Items.{ItemPiece}
use Rattle.source_format.specs.Layout.{Place as PlaceSeen, laid}
use Rattle.source_format.specs.Pieces.{Entry as EntrySeen, KeptLine as LineSeen, Piece}
use Rattle.source_format.specs.declared.entries.Entry.{Entry}
use Rattle.source_format.specs.declared.lines.KeptLine.{KeptLine}
use Rattle.source_format.specs.declared.places.Place.{Place}

-- a kept line, an item and a place in memory, as plain data
abbrev pub line_seen : KeptLine → LineSeen
line_seen line = record { number = line.number; text = line.text.now }

abbrev pub entry_seen : Entry → EntrySeen
entry_seen entry = record { text = entry.text.items; line = entry.line; ended = entry.ended }

abbrev pub place_seen : Place → PlaceSeen
place_seen place = record { column = place.column; kind = place.kind }

-- an item that a comma ends
abbrev pub ended_entry : ItemPiece → EntrySeen
ended_entry p = record { text = p.text; line = p.line; ended = true }

abbrev pub all_ended : List ItemPiece → List EntrySeen
all_ended ps = map ended_entry ps

-- items of which no comma ends the last one; it is left out if it is empty
abbrev pub with_end : List EntrySeen → List EntrySeen
with_end [] = []
with_end (e ∷ []) = if is_empty e.text then [] else record { text = e.text; line = e.line; ended = false } ∷ []
with_end (e ∷ f ∷ es) = e ∷ with_end (f ∷ es)

-- However pieces go on, `new` is written of the first of them after `old`.
abbrev pub Lays : ℕ → (old : List ℕ) → PlaceSeen → (front : List Piece) → (new : List ℕ) → PlaceSeen → Type 0
Lays width old place front new after = (rest : List Piece) → old ++ laid width place (front ++ rest) ≡ new ++ laid width after rest
