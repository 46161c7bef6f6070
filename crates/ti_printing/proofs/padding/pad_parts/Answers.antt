use Rattle.std.proofs.Common.{◌++◌, refl, ap, sym, ◌∙◌, arith}
use Rattle.std.proofs.lemmas.Result.{err_from_is_err_and}
use Rattle.ti_printing.specs.inside.Padding.{with_pad_bytes}
use Rattle.ti_printing.proofs.Cuts.{padded_is, padded_too_much}
use Rattle.ti_printing.proofs.padding.pad_parts.Goals as goal

pub returns-in_default-clause-too_much : goal.returns-in_default-clause-too_much
returns-in_default-clause-too_much c =
    let none = c.in_default.ensures in
    padded_too_much c.args.text.now c.args.lines c.args.line.now (λ bad. omega (arith, none), λ many. refl)

pub returns-in_err-out-clause-too_much : goal.returns-in_err-out-clause-too_much
returns-in_err-out-clause-too_much c =
    let p = err_from_is_err_and c.from_residual.result c.from_residual.ensures.1 in
    let few = c.in-Some.ensures in
    padded_too_much c.args.text.now c.args.lines c.args.line.now
    (λ bad. absurd (let is = sym p.1 ∙ bad in let memory = p.2 in cc), λ many. absurd (omega (arith, many, few)))

pub returns-clause-ok : goal.returns-clause-ok
returns-clause-ok c =
    padded_is c.args.text.now c.args.lines c.args.line.now c.write.new.out.items
    (c.write.ensures ∙ ap (λ items. items ++ with_pad_bytes c.args.text.now c.args.lines c.args.line.now) c.in_ok-out.ensures.items)

pub returns-clause-too_much : goal.returns-clause-too_much
returns-clause-too_much c =
    let few = c.in-Some.ensures in
    padded_too_much c.args.text.now c.args.lines c.args.line.now (λ bad. absurd (cc bad), λ many. absurd (omega (arith, many, few)))
