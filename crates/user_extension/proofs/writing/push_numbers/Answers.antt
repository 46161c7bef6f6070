use Rattle.std.proofs.Common.{ap, ◌∙◌, ◌++◌, sym}
use Rattle.ti_layout.specs.Layout.{number_section}
use Rattle.user_extension.specs.Extension.{number_part}
use Rattle.user_extension.proofs.Fronts.{begun, blank, no_number, number_here, number_put, passed}
use Rattle.user_extension.proofs.writing.push_numbers.Goals.{in-Number+in_ok-push_number, in_default}
use Rattle.user_extension.proofs.writing.push_numbers.Goals as goal

pub loop-row-init : goal.loop-row-init
loop-row-init c = begun c.args.format _

pub loop-row-preserved : goal.loop-row-preserved
loop-row-preserved c = elim c.match-row.branch [
  | in-Number+in_ok-push_number w ↦
      ap (λ im. im.items) w.image-is
      ∙ number_put c.args.format _ _ _ _ _ w.in-Number.number c.loop-row.invariant w.in_ok-push_number.ensures
      (number_here _ _ _ blank c.loop-row-test.true w.in-Number.is)
  | in_default w ↦
      ap (λ im. im.items) w.image-is ∙ c.loop-row.invariant
      ∙ ap (λ ns. c.args.image.now.items ++ number_section c.args.format ns)
      (sym (passed (λ v. number_part v.1) _ _ blank c.loop-row-test.true (no_number _ w.in_default.not-Number)))
]
