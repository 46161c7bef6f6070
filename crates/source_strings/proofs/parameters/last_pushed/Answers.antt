use Rattle.std.proofs.Common.{ap, ◌∙◌}
use Rattle.std.specs.Prelude.{None}
use Rattle.std.specs.List.{filter_map, last_or}
use Rattle.source_strings.specs.Parameters.{pushed_by}
use Rattle.source_strings.proofs.Reading.{tokens_read}
use Rattle.source_strings.proofs.parameters.last_pushed.Goals as goal

pub returns : goal.returns
returns c =
    c.last_left.ensures
    ∙ ap (λ tokens. last_or None (filter_map (pushed_by c.args.place) tokens)) (tokens_read c.args.format.now _ c.new-lexer.ensures.reading)
