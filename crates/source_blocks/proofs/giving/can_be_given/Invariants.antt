use Rattle.std.proofs.Common.{◌≡◌, drop, map}
use Rattle.std.specs.List.{list_any}
use Rattle.std.specs.Str.{bytes_eq}
use Rattle.source_spans.specs.Subjects.{UseSeen, use_seen, uses_of}
use Rattle.source_blocks.specs.Giving.{block_with}
use Rattle.source_blocks.proofs.giving.can_be_given.Given as goal

abbrev pub invariant-loop-found : goal.invariant-loop-found
invariant-loop-found l =
    list_any (λ (found : UseSeen). bytes_eq found.name l.name) (map use_seen (drop l.found-index l.found-items))
    ≡ list_any (λ (found : UseSeen). bytes_eq found.name l.name) (uses_of (block_with l.name))
