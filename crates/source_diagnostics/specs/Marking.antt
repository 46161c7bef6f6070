-- What of a source is shown as faulty for each fault of its report (own; Language Server Protocol
-- 3.17, "Diagnostic"): the part of its block that the fault is of, as far as that is on its line.
use Rattle.std.specs.Prelude.{ℕ, ◌+◌, ◌==◌, nat_eq, List, [], length, Option, Some, None, slice_get, if◌then◌else◌}
use Rattle.std.specs.List.{slice_range}
use Rattle.std.specs.Option.{option_map_or}
use Rattle.ti_source.specs.declared.code.Code.{Code}
use Rattle.ti_source.specs.declared.code.Code.TheVariants as code
use Rattle.user_compiling.specs.Faults.{ExtendedSourceFault, of_profile, bad_user_defined, block_of, line_of as fault_line}
use Rattle.source_spans.specs.Faulty.{Search, Sought, find_sought, search_of}
use Rattle.source_spans.specs.declared.parts.Part.{Part}
use Rattle.source_places.specs.LineTexts.{indent, line_of, until_end, width}
use Rattle.source_places.specs.Position.{position_of}
use Rattle.source_types.specs.declared.places.Range.{Range}

-- the text of the block at that position
abbrev pub text_at : List (List ℕ) → ℕ → List ℕ
text_at texts at = option_map_or (λ text. text) (slice_get texts at) []

-- ---- what is shown of a part

-- a line of that number from its first byte that is not white space to its end
abbrev pub marked : ℕ → List ℕ → Range
marked number line = record {
  start = record { line = number; column = indent line };
  end = record { line = number; column = width line };
}

-- where the first line of a part of a text ends
abbrev pub stop_of : List ℕ → Part → ℕ
stop_of text part = part.start + length (until_end (slice_range text part.start part.end))

-- the first line of a part of a text, if that line has this number
abbrev pub marked_part : ℕ → List ℕ → Part → Range
marked_part number text part = record {
  start = record { line = number; column = (position_of text part.start).column };
  end = record { line = number; column = (position_of text (stop_of text part)).column };
}

-- what is shown for a fault on a line of a block, which is that of the row counted from 0 and has
-- this number in the source: the part that the fault is of, if that begins on the line, else the line
abbrev pub marked_for : ℕ → List ℕ → ℕ → Option Part → Range
marked_for number text row None = marked number (line_of text row)
marked_for number text row (Some part) =
    if (position_of text part.start).line == row then marked_part number text part else marked number (line_of text row)

-- ---- the parts of faults

-- the code by which the part of a fault is sought: an item of a user-defined name is read as one of
-- an unknown name
abbrev pub code_of : ExtendedSourceFault → Code
code_of (of_profile fault) = fault.code
code_of (bad_user_defined block line name) = code.UnknownCapability

-- what a fault is about
abbrev pub detail_of : ExtendedSourceFault → Option (List ℕ)
detail_of (of_profile fault) = fault.detail
detail_of (bad_user_defined block line name) = Some name

-- a fault as its part is sought
abbrev pub sought_of : ExtendedSourceFault → Sought
sought_of fault = record { line = fault_line fault; code = code_of fault; detail = detail_of fault }

-- where the part of a fault of the block at that position is sought: in what the search for that of
-- the fault before left, if it is of the same block, else in the whole block
abbrev pub search_at : List (List ℕ) → Option (ℕ × Search) → ℕ → Search
search_at texts None at = search_of (text_at texts at)
search_at texts (Some last) at = if nat_eq last.0 at then last.1 else search_of (text_at texts at)

-- the part that a fault is of, and what the search for it leaves
abbrev pub found_for : List (List ℕ) → Option (ℕ × Search) → ExtendedSourceFault → Option Part × Search
found_for texts last fault = find_sought (search_at texts last (block_of fault)) (sought_of fault)
