use Rattle.std.proofs.Common.{arith}
use Rattle.source_spans.proofs.Seeing.{last_mapped}
use Rattle.source_spans.proofs.words.last_of.Goals as goal

pub returns-else-parts-eq0-clause-last : goal.returns-else-parts-eq0-clause-last
returns-else-parts-eq0-clause-last c text = last_mapped text c.args.parts.now (record { start = 0; end = 0 }) (omega arith)
