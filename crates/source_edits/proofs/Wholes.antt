-- The whole of a text is a part of it.
use Rattle.std.proofs.Common.{◌≡◌, ◌-◌, List, length, arith}
use Rattle.std.proofs.lemmas.List.{take_all}
use Rattle.ti_source.specs.Folding.{PlacedByte}
use Rattle.source_spans.specs.Parts.{part_of}

pub whole : (text : List PlacedByte) → part_of text (record { start = 0; end = length text }) ≡ text
whole text = take_all (length text - 0) text (omega arith)
