use Rattle.std.proofs.Common.{sym, ◌∙◌, arith}
use Rattle.ti_spelling.proofs.TrimLemmas.{trim_step, trim_stop}
use Rattle.ti_spelling.proofs.white_space.trim_end.Goals as goal

pub loop-rest-preserved : goal.loop-rest-preserved
loop-rest-preserved c =
    trim_step c.loop-rest.rest.now (omega arith) (sym c.is_white_space.ensures ∙ c.if-is_white_space.true) ∙ c.loop-rest.invariant

pub returns-else-is_white_space : goal.returns-else-is_white_space
returns-else-is_white_space c =
    trim_stop c.loop-rest.rest.now (omega arith) (sym c.is_white_space.ensures ∙ c.if-is_white_space.false) ∙ c.loop-rest.invariant
