-- The parts of an item as it is written (terminfo(5); X/Open Curses Issue 7, "Terminfo Source
-- Format").
use Rattle.std.specs.Prelude.{◌+◌, ◌-◌, ◌&&◌, nat_le, nat_lt, List, drop, filter, length, take}
use Rattle.ti_source.specs.Folding.{PlacedByte}
use Rattle.source_spans.specs.Subjects.{without_end}
use Rattle.source_spans.specs.Touching.{name_of}
use Rattle.source_spans.specs.declared.parts.Part.{Part}

-- the name of an item
abbrev pub written_name : List PlacedByte → List PlacedByte
written_name item = name_of (without_end item)

-- what is after it, without the white space at the end: a sign and a value, or a sign, or nothing
abbrev pub after_name : List PlacedByte → List PlacedByte
after_name item = drop (length (written_name item)) (without_end item)

-- what is after the sign that follows the name
abbrev pub value_of : List PlacedByte → List PlacedByte
value_of item = drop (length (written_name item) + 1) item

-- a list without its last element
abbrev pub without_last : {X : Type 0} → List X → List X
without_last xs = take (length xs - 1) xs

-- the bytes of a folded text in a part of its block
abbrev pub bytes_in : Part → List PlacedByte → List PlacedByte
bytes_in part text = filter (λ (x : PlacedByte). nat_le part.start x.1 && nat_lt x.1 part.end) text
