use Rattle.std.proofs.Common.{◌≡◌, ◌++◌, drop, flat_map, map}
use Rattle.std.specs.List.{enumerate_from}
use Rattle.ti_source.specs.Reading.{reading_of}
use Rattle.source_spans.specs.Parts.{part_of}
use Rattle.source_edits.specs.Edits.{edit_seen}
use Rattle.source_fixes.specs.Fixes.{edits_of, touched_edits}
use Rattle.source_fixes.proofs.fixes.edits_of.Given as goal

-- what is offered so far, and for the items that are left, is all
abbrev pub invariant-loop-ordinal : goal.invariant-loop-ordinal
invariant-loop-ordinal l = map edit_seen l.edits.items ++ flat_map (touched_edits l.fn.capabilities l.database l.stretch (reading_of l.parsed))
    (enumerate_from l.ordinal (map (part_of l.text) (drop l.ordinal l.items)))
    ≡ edits_of l.fn.capabilities l.database l.stretch (reading_of l.parsed) (map (part_of l.text) l.items)
