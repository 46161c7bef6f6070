use Rattle.std.proofs.Common.{◌-◌, length, sym, ◌∙◌}
use Rattle.std.proofs.lemmas.Bool.{eqb-true}
use Rattle.source_document.proofs.LocalCuts.{last_found}
use Rattle.source_document.proofs.recutting.last_block.Goals as goal

pub returns-then-is_ended : goal.returns-then-is_ended
returns-then-is_ended c =
    last_found c.args.text.now c.args.block.now c.split_at.result.0.now c.split_at.result.1.now (length c.args.text.now - length c.args.block.now)
    c.requires
    (c.is_equal.ensures c.if-is_equal.true) c.split_at.ensures.front c.split_at.ensures.back
    (eqb-true _ 10 (sym c.is_ended.ensures ∙ c.if-is_ended.true))
