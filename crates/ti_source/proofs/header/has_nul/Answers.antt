use Rattle.std.proofs.Common.{◌∙◌}
use Rattle.ti_source.proofs.HeaderLemmas.{nul_sought}
use Rattle.ti_source.proofs.header.has_nul.Goals as goal

pub returns : goal.returns
returns c = c.is_some.ensures ∙ nul_sought c.args.field.now c.memchr.result c.memchr.ensures
