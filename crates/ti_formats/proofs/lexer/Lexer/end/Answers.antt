use Rattle.std.proofs.Common.{refl, ◌∙◌}
use Rattle.ti_formats.proofs.Lexing.{one-less}
use Rattle.ti_formats.proofs.lexer.Lexer.end.Goals as goal

pub loop-init : goal.loop-init
loop-init c = refl

pub loop-smaller : goal.loop-smaller
loop-smaller c = one-less _ _ _ c.next_token.ensures.token c.loop-test.ensures

pub loop-preserved : goal.loop-preserved
loop-preserved c = c.next_token.ensures.stop ∙ c.loop.invariant
