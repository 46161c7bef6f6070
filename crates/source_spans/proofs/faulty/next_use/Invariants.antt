use Rattle.std.proofs.Common.{◌≡◌, drop, map}
use Rattle.ti_source.specs.Reading.{item_of}
use Rattle.source_spans.specs.Faulty.{first_and_rest, is_use}
use Rattle.source_spans.proofs.faulty.next_use.Given as goal

-- the next of the rest is the next of all
abbrev pub invariant-loop-at : goal.invariant-loop-at
invariant-loop-at l =
    first_and_rest (is_use l.line l.name) (map item_of (drop l.at l.items)) ≡ first_and_rest (is_use l.line l.name) (map item_of (drop l.from l.items))
