use Rattle.std.proofs.Common.{ap, subst, sym}
use Rattle.ti_layout.specs.Values.{HasNoNul}
use Rattle.everyday_graphics.proofs.Drawn.{acsc-has-no-nul}
use Rattle.everyday_graphics.proofs.graphics.give_acsc.Goals as goal

pub set-requires : goal.set-requires
set-requires c = (
  ap (λ x. x.kind) c.in-Some.ensures.value,
  subst HasNoNul (sym c.in_ok-text-in-Some.ensures.ok) acsc-has-no-nul,
)
