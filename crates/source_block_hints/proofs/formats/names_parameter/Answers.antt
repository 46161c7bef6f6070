use Rattle.std.proofs.Common.{ap}
use Rattle.source_block_hints.specs.Formats.{names_parameter}
use Rattle.source_block_hints.proofs.Reading.{same_tokens}
use Rattle.source_block_hints.proofs.formats.names_parameter.Goals as goal

pub loop-token-init : goal.loop-token-init
loop-token-init c = ap (names_parameter c.args.number) (same_tokens c.args.format.now _ c.new-lexer.ensures.reading)
