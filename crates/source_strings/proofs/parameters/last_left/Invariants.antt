use Rattle.std.proofs.Common.{◌≡◌, length}
use Rattle.std.specs.Prelude.{None}
use Rattle.std.specs.List.{filter_map, last_or}
use Rattle.ti_formats.specs.Left.{left_of}
use Rattle.source_strings.specs.Parameters.{pushed_by}
use Rattle.source_strings.proofs.parameters.last_left.Given as goal

-- the last that the tokens which are left push, else the last so far, is the last of all
abbrev pub invariant-loop-found : goal.invariant-loop-found
invariant-loop-found l =
    last_or l.last (filter_map (pushed_by l.place) (left_of l.lexer).tokens)
    ≡ last_or None (filter_map (pushed_by l.place) (left_of l.fn.lexer).tokens)

abbrev pub decreases-loop-found : goal.decreases-loop-found
decreases-loop-found l = length (left_of l.lexer).tokens
