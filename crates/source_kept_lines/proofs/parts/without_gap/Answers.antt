use Rattle.std.proofs.Common.{◌≤◌, List, ℕ, length, ap, subst, sym, ◌∙◌}
use Rattle.source_kept_lines.specs.Parts as spec
use Rattle.source_kept_lines.specs.inside.Steps.{HasNoGap}
use Rattle.source_kept_lines.proofs.Steps.{between_after, between_none, between_parts, front_shorter}
use Rattle.source_kept_lines.proofs.parts.without_gap.Goals as goal

pub returns-then-is_between-clause-parts : goal.returns-then-is_between-clause-parts
returns-then-is_between-clause-parts c =
    ap (spec.parts c.args.reached) c.split_front.ensures.rest
    ∙ between_parts c.args.reached c.args.text.now (sym c.is_between.ensures ∙ c.if-is_between.true)

pub returns-then-is_between-clause-after : goal.returns-then-is_between-clause-after
returns-then-is_between-clause-after c =
    ap (spec.after c.args.reached) c.split_front.ensures.rest
    ∙ between_after c.args.reached c.args.text.now (sym c.is_between.ensures ∙ c.if-is_between.true)

pub returns-then-is_between-clause-begun : goal.returns-then-is_between-clause-begun
returns-then-is_between-clause-begun c =
    subst (HasNoGap c.args.reached) (sym c.split_front.ensures.rest)
    (between_none c.args.reached c.args.text.now (sym c.is_between.ensures ∙ c.if-is_between.true))

pub returns-then-is_between-clause-shorter : goal.returns-then-is_between-clause-shorter
returns-then-is_between-clause-shorter c =
    subst (λ (text : List ℕ). length text ≤ length c.args.text.now) (sym c.split_front.ensures.rest) (front_shorter c.args.text.now)
