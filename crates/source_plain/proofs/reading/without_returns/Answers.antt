use Rattle.std.proofs.Common.{◌∙◌, sym}
use Rattle.source_plain.proofs.Returns.{without_return}
use Rattle.source_plain.proofs.reading.without_returns.Goals as goal

pub returns : goal.returns
returns c = sym (without_return c.args.text.now (sym c.holds_return.ensures ∙ c.if-holds_return.false))
