use Rattle.std.proofs.Common.{sym}
use Rattle.source_spans.proofs.Seeing.{begins_short}
use Rattle.source_spans.proofs.items.begins_with.Goals as goal

pub returns-then-text-word-clause-begins : goal.returns-then-text-word-clause-begins
returns-then-text-word-clause-begins c = sym (begins_short c.args.word.now c.args.text.now c.if-text-word.true)
