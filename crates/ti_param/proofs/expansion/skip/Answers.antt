use Rattle.std.proofs.Common.{ap, sym, ◌∙◌, arith, length}
use Rattle.ti_formats.specs.Left.{left_of}
use Rattle.ti_param.proofs.Steps.{after_part-go, after_part-here, after_part-end, level_after-le}
use Rattle.ti_param.proofs.expansion.skip.Goals as goal

pub loop-token-preserved : goal.loop-token-preserved
loop-token-preserved c = record {
  left = sym (after_part-go _ _ _ _ _ _ c.in-Some.ensures.token (sym c.in-Some-level_after.ensures)) ∙ c.loop-token.invariant.left;
  stop = c.in-Some.ensures.stop ∙ c.loop-token.invariant.stop;
  fewer = omega (arith, ap length c.in-Some.ensures.token, c.loop-token.invariant.fewer);
  room = omega (
    arith,
    level_after-le c.loop-token.level c.in-Some-level_after.next c.args.to_else c.in-Some.field-0.token
        (sym c.in-Some-level_after.ensures),
    ap length c.in-Some.ensures.token,
  );
}

pub returns-in_default-level_after-clause-tokens : goal.returns-in_default-level_after-clause-tokens
returns-in_default-level_after-clause-tokens c =
    sym (after_part-here _ _ _ _ _ c.in-Some.ensures.token (sym c.in_default-level_after.ensures)) ∙ c.loop-token.invariant.left

pub returns-in_default-clause-tokens : goal.returns-in_default-clause-tokens
returns-in_default-clause-tokens c =
    ap (λ u. (left_of u).tokens) c.in_default.ensures.end ∙ c.in_default.ensures.token ∙ sym (after_part-end _ c.args.to_else _ c.in_default.ensures.token)
    ∙ c.loop-token.invariant.left
