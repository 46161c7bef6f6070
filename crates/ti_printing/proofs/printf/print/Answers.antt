use Rattle.std.proofs.Common.{◌≡◌, ◌++◌, OnOk, subst, sym, rules, FitsSigned, w32}
use Rattle.std.proofs.lemmas.Int.{to_z-of_z}
use Rattle.ti_printing.specs.Printf.{form_bytes}
use Rattle.ti_printing.proofs.Layouts.{printed_by-number}
use Rattle.ti_printing.proofs.printf.print.Goals as goal

pub returns-in-Text-clause-ok : goal.returns-in-Text-clause-ok
unfolding form_bytes
returns-in-Text-clause-ok c = search rules

pub returns-in_default : goal.returns-in_default
unfolding form_bytes
returns-in_default c =
    let d = c.args.directive.now in
    let fits : FitsSigned w32 c.args.number = c.ranges.number in
    let number = simp to_z-of_z at c.print_number.ensures.ok in
    record {
      ok = subst (λ text. OnOk c.print_number.result (c.print_number.new.out.items ≡ c.args.out.now.items ++ text))
          (sym (printed_by-number d.conversion d c.args.number c.args.text.now c.in_default.not-Text)) number;
      err = c.print_number.ensures.err;
    }
