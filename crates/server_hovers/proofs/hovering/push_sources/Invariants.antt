use Rattle.std.proofs.Common.{◌≡◌, ◌++◌, drop, map}
use Rattle.std.specs.String.{string_bytes}
use Rattle.source_blocks.specs.Deciding.{source_seen}
use Rattle.server_hovers.specs.Hovers.{source_lines}
use Rattle.server_hovers.proofs.hovering.push_sources.Given as goal

abbrev pub invariant-loop-source : goal.invariant-loop-source
invariant-loop-source l = string_bytes l.text ++ source_lines (map source_seen (drop l.source-index l.sources)) ≡ string_bytes l.fn.text
    ++ source_lines (map source_seen l.sources)
