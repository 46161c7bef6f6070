use Rattle.std.proofs.Common.{refl, ap, sym, ◌∙◌, arith}
use Rattle.ti_formats.specs.declared.codes.Token.TheVariants.{If}
use Rattle.ti_formats.specs.inside.Formats.{phases_after}
use Rattle.ti_formats.proofs.Conditionals.{begun, not_begun}
use Rattle.ti_formats.proofs.acceptor.Conditionals.begin.Goals as goal

pub returns-then-self-eq-OPEN_MAX : goal.returns-then-self-eq-OPEN_MAX
returns-then-self-eq-OPEN_MAX c = (
  ap (λ ps. phases_after ps If) (sym c.self.view_is) ∙ not_begun c.self.inside.depth c.self.inside.taken c.if-self-eq-OPEN_MAX.true,
  refl,
)

pub returns : goal.returns
returns c =
    ap (λ ps. phases_after ps If) (sym c.self.view_is)
    ∙ begun c.self.inside.depth c.self.inside.taken _ _ (omega (arith, c.self.invariant.0, c.if-self-eq-OPEN_MAX.false)) refl refl
