use Rattle.std.proofs.Common.{refl, ap, sym, ◌∙◌, arith}
use Rattle.ti_formats.specs.declared.codes.Token.TheVariants.{EndIf}
use Rattle.ti_formats.specs.inside.Formats.{phases_after}
use Rattle.ti_formats.proofs.Conditionals.{ended, not_ended, half-bound}
use Rattle.ti_formats.proofs.acceptor.Conditionals.end.Goals as goal

pub returns-then-self-eq0 : goal.returns-then-self-eq0
returns-then-self-eq0 c = (
  ap (λ ps. phases_after ps EndIf) (sym c.self.view_is) ∙ not_ended c.self.inside.depth c.self.inside.taken c.if-self-eq0.true,
  refl,
)

pub invariant_of-self : goal.invariant_of-self
invariant_of-self c = (
  omega (arith, c.self.invariant.0),
  half-bound c.self.inside.depth c.self.inside.taken c.self.invariant.1 (omega (arith, c.if-self-eq0.false)),
)

pub returns : goal.returns
returns c =
    ap (λ ps. phases_after ps EndIf) (sym c.self.view_is)
    ∙ ended c.self.inside.depth c.self.inside.taken _ _ (omega (arith, c.if-self-eq0.false)) refl refl
