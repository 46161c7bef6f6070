use Rattle.std.proofs.Common.{refl, ap, sym, ◌∙◌, arith}
use Rattle.ti_formats.specs.declared.codes.Token.TheVariants.{Else}
use Rattle.ti_formats.specs.inside.Formats.{phases_after}
use Rattle.ti_formats.proofs.Conditionals.{left_part, not_left}
use Rattle.ti_formats.proofs.acceptor.Conditionals.leave.Goals as goal

pub returns-then-self-eq0 : goal.returns-then-self-eq0
returns-then-self-eq0 c = (
  ap (λ ps. phases_after ps Else) (sym c.self.view_is) ∙ not_left c.self.inside.depth c.self.inside.taken c.if-self-eq0.true,
  refl,
)

pub returns : goal.returns
returns c =
    ap (λ ps. phases_after ps Else) (sym c.self.view_is)
    ∙ left_part c.self.inside.depth c.self.inside.taken _ c.self.invariant.1 (omega (arith, c.if-self-eq0.false)) refl
