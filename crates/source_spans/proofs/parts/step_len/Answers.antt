use Rattle.std.proofs.Common.{◌≡◌, ◌<◌, false, get_or, length, sym, ◌∙◌, arith}
use Rattle.std.proofs.lemmas.Bool.{ne_eqb}
use Rattle.ti_source.specs.Items.{takes}
use Rattle.source_spans.proofs.Parting.{one_step, two_steps}
use Rattle.source_spans.proofs.parts.step_len.Goals.{else-may_take-via-then-may_take+then-text-gt1+else-takes, else-may_take-via-then-may_take+else-text-gt1}
use Rattle.source_spans.proofs.parts.step_len.Goals.{else-may_take-via-else-may_take}
use Rattle.source_spans.proofs.parts.step_len.Goals as goal

pub returns-then-takes-clause-goes : goal.returns-then-takes-clause-goes
returns-then-takes-clause-goes c = λ some. two_steps c.args.text.now c.args.before (0, 0) c.if-text-gt1.true (sym c.takes.ensures ∙ c.if-takes.true)

pub returns-clause-goes : goal.returns-clause-goes
returns-clause-goes c =
    let text = c.args.text.now in
    let alone : 1 < length text → takes c.args.before (get_or text 0 (0, 0)).0 (get_or text 1 (0, 0)).0 ≡ false =
    elim c.else-may_take.branch [
      | else-may_take-via-then-may_take+then-text-gt1+else-takes w ↦ λ more. sym w.takes.ensures ∙ w.if-takes.false
      | else-may_take-via-then-may_take+else-text-gt1 w ↦ λ more. absurd (omega (arith, more, w.if-text-gt1.false))
      | else-may_take-via-else-may_take w ↦ λ more. c.may_take.ensures c.args.before (get_or text 1 (0, 0)).0 w.if-may_take.false
    ] in
    λ some. one_step text c.args.before (0, 0) c.requires (ne_eqb (get_or text 0 (0, 0)).0 44 c.if-byte-eq44.false) alone
