use Rattle.std.proofs.Common.{◌∙◌}
use Rattle.source_block_hints.proofs.Reading.{same_stop}
use Rattle.source_block_hints.proofs.formats.stop_of.Goals as goal

pub returns : goal.returns
returns c = c.end.ensures.place ∙ same_stop c.args.format.now _ c.new-lexer.ensures.reading
