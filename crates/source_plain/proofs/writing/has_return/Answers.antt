use Rattle.std.proofs.Common.{◌∙◌, sym}
use Rattle.source_plain.proofs.Written.{no_return_byte}
use Rattle.source_plain.proofs.writing.has_return.Goals as goal

pub returns-else-holds_return : goal.returns-else-holds_return
returns-else-holds_return c =
    c.if-holds_return.false ∙ sym (no_return_byte c.args.text.now (sym c.holds_return.ensures ∙ c.if-holds_return.false))
