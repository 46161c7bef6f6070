-- Where the names field of a block is, from what is found of it (own).
use Rattle.std.specs.Prelude.{List, Option, None, Some}
use Rattle.ti_source.specs.Folding.{PlacedByte}
use Rattle.source_spans.specs.Parts.{end_of, spanned}
use Rattle.source_spans.specs.declared.parts.Part.{Part}

-- where bytes are that are followed by these, from where they are themselves, if there are any
abbrev pub spanned_on : Option Part → List PlacedByte → Option Part
spanned_on None rest = spanned rest
spanned_on (Some span) rest = Some (record { start = span.start; end = end_of span.end rest })
