use Rattle.std.proofs.Common.{arith, ◌≡◌, ◌++◌, ◌∙◌, ◌-◌, ap, drop, OnOk, subst, FitsSigned, w32}
use Rattle.std.proofs.lemmas.Int.{to_z-of_z}
use Rattle.std.proofs.lemmas.List.{length-drop, take_all}
use Rattle.ti_printing.specs.inside.Printf.{parts_text}
use Rattle.ti_printing.specs.Printf.{printed_number, numeral, digits_in, in_width}
use Rattle.ti_printing.proofs.printf.print_number.Goals as goal

pub returns-clause-ok : goal.returns-clause-ok
returns-clause-ok c =
    let d = c.args.directive.now in
    let l = c.arrange.result in
    let start = c.write_numeral-start in
    let fits : FitsSigned w32 c.args.number = c.ranges.number in
    let written : drop start.result start.new.buffer ≡ numeral d.conversion c.args.number = simp to_z-of_z at start.ensures.digits in
    let shown = take_all (11 - start.result) (drop start.result start.new.buffer) (omega (arith, length-drop start.result start.new.buffer)) ∙ written in
    let front = simp to_z-of_z at c.front_of-front.ensures.value in
    let digits = c.zeros_before-zeros.ensures.value ∙ ap (digits_in d.conversion d.flags d.precision) shown in
    let e : parts_text l.before l.front.now l.zeros l.shown.now l.after ≡ printed_number d c.args.number =
    c.arrange.ensures.parts ∙ ap (in_width d c.front_of-front.result.now) digits
    ∙ ap (λ f. in_width d f (digits_in d.conversion d.flags d.precision (numeral d.conversion c.args.number))) front in
    subst (λ parts. OnOk c.push_parts.result (c.push_parts.new.out.items ≡ c.args.out.now.items ++ parts)) e c.push_parts.ensures.ok
