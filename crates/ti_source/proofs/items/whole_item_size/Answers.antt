use Rattle.std.proofs.Common.{sym, ◌∙◌, arith}
use Rattle.ti_source.proofs.ItemLemmas.{whole_item}
use Rattle.ti_source.proofs.items.whole_item_size.Goals as goal

pub returns : goal.returns
returns c =
    let found = c.in_ok-size.ensures in
    whole_item c.args.text.now c.in_ok-size.size found.0 found.1 (omega (arith, c.if-size-eq0.false)) c.if-text-size-eq10.false c.if-text-size-eq92.false
    (sym c.is_white_space.ensures ∙ c.if-is_white_space.false)
