use Rattle.std.proofs.Common.{◌≡◌, sym, arith, length}
use Rattle.memchr.specs.Find.{Nowhere, Passes, is_byte}
use Rattle.ti_printing.specs.inside.Padding.{padding_of}
use Rattle.ti_printing.proofs.Cuts.{padded_is, padded_too_much}
use Rattle.ti_printing.proofs.Plain.{padded-plain, padding_of-plain}
use Rattle.ti_printing.proofs.padding.pad_owned.Goals as goal

pub returns-in-None-clause-ok : goal.returns-in-None-clause-ok
returns-in-None-clause-ok c =
    let nowhere : Nowhere (Passes (is_byte 36) c.args.text.items) 0 (length c.args.text.items) = rw c.as_slice.ensures.value at c.in-None.ensures in
    padded_is c.args.text.items c.args.lines c.args.line.now c.args.text.items (sym (padded-plain c.args.text.items c.args.lines c.args.line.now nowhere))

pub returns-in-None-clause-too_much : goal.returns-in-None-clause-too_much
returns-in-None-clause-too_much c =
    let nowhere : Nowhere (Passes (is_byte 36) c.args.text.items) 0 (length c.args.text.items) = rw c.as_slice.ensures.value at c.in-None.ensures in
    let none : padding_of c.args.text.items c.args.lines c.args.line.now ≡ 0 = padding_of-plain c.args.text.items c.args.lines c.args.line.now nowhere in
    padded_too_much c.args.text.items c.args.lines c.args.line.now (λ bad. absurd (cc), λ many. absurd (omega arith))
