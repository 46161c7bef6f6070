use Rattle.std.proofs.Common.{ap}
use Rattle.source_block_hints.specs.Formats.{foreign_in}
use Rattle.source_block_hints.proofs.Reading.{same_tokens}
use Rattle.source_block_hints.proofs.formats.foreign_in.Goals as goal

pub loop-place-init : goal.loop-place-init
loop-place-init c = ap (foreign_in c.args.count) (same_tokens c.args.format.now _ c.new-lexer.ensures.reading)
