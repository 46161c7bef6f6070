use Rattle.std.proofs.Common.{refl, ap, sym, ◌∙◌, arith, inl, inr}
use Rattle.ti_formats.specs.declared.codes.Token.TheVariants.{Then}
use Rattle.ti_formats.specs.inside.Formats.{phases_after}
use Rattle.ti_formats.proofs.Conditionals.{taken_part, not_taken, part-bound}
use Rattle.ti_formats.proofs.acceptor.Conditionals.take.Goals as goal

pub returns-then-self-eq0 : goal.returns-then-self-eq0
returns-then-self-eq0 c = (
  ap (λ ps. phases_after ps Then) (sym c.self.view_is) ∙ not_taken c.self.inside.depth c.self.inside.taken (inl c.if-self-eq0.true),
  refl,
)

pub returns-then-self-eq1 : goal.returns-then-self-eq1
returns-then-self-eq1 c = (
  ap (λ ps. phases_after ps Then) (sym c.self.view_is) ∙ not_taken c.self.inside.depth c.self.inside.taken (inr c.if-self-eq1.true),
  refl,
)

pub invariant_of-self : goal.invariant_of-self
invariant_of-self c = (
  c.self.invariant.0,
  part-bound c.self.inside.depth c.self.inside.taken c.self.invariant.1 (omega (arith, c.if-self-eq0.false)) (omega (arith, c.if-self-eq1.false)),
)

pub returns : goal.returns
returns c =
    ap (λ ps. phases_after ps Then) (sym c.self.view_is)
    ∙ taken_part c.self.inside.depth c.self.inside.taken _ (omega (arith, c.if-self-eq0.false)) (omega (arith, c.if-self-eq1.false)) refl
