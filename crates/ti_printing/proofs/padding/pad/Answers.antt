use Rattle.std.proofs.Common.{◌≡◌, ◌∙◌, sym, arith}
use Rattle.std.proofs.lemmas.Result.{err_from_is_err_and}
use Rattle.ti_printing.specs.inside.Padding.{padding_of}
use Rattle.ti_printing.proofs.Cuts.{padded_is, padded_too_much}
use Rattle.ti_printing.proofs.Plain.{padded-plain, padding_of-plain}
use Rattle.ti_printing.proofs.padding.pad.Goals as goal

pub returns-in_err-from_slice-in-None-clause-too_much : goal.returns-in_err-from_slice-in-None-clause-too_much
returns-in_err-from_slice-in-None-clause-too_much c =
    let p = err_from_is_err_and c.from_residual.result c.from_residual.ensures.1 in
    let none : padding_of c.args.text.now c.args.lines c.args.line.now ≡ 0 = padding_of-plain c.args.text.now c.args.lines c.args.line.now c.in-None.ensures in
    padded_too_much c.args.text.now c.args.lines c.args.line.now (
      λ bad. absurd (let is = sym p.1 ∙ bad in let memory = p.2 in cc),
      λ many. absurd (omega arith),
    )

pub returns-in_ok-from_slice-in-None-clause-ok : goal.returns-in_ok-from_slice-in-None-clause-ok
returns-in_ok-from_slice-in-None-clause-ok c =
    padded_is c.args.text.now c.args.lines c.args.line.now _
    (c.in_ok-from_slice-in-None.ensures.items ∙ sym (padded-plain c.args.text.now c.args.lines c.args.line.now c.in-None.ensures))

pub returns-in_ok-from_slice-in-None-clause-too_much : goal.returns-in_ok-from_slice-in-None-clause-too_much
returns-in_ok-from_slice-in-None-clause-too_much c =
    let none : padding_of c.args.text.now c.args.lines c.args.line.now ≡ 0 = padding_of-plain c.args.text.now c.args.lines c.args.line.now c.in-None.ensures in
    padded_too_much c.args.text.now c.args.lines c.args.line.now (λ bad. absurd (cc), λ many. absurd (omega arith))
