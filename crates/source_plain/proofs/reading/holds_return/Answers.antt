use Rattle.std.proofs.Common.{◌∙◌}
use Rattle.source_plain.proofs.Returns.{return_sought}
use Rattle.source_plain.proofs.reading.holds_return.Goals as goal

pub returns : goal.returns
returns c = c.is_some.ensures ∙ return_sought c.args.text.now c.memchr.result c.memchr.ensures
