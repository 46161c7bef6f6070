use Rattle.std.proofs.Common.{◌≡◌, ◌++◌, OnOk, subst, FitsSigned, w32}
use Rattle.std.proofs.lemmas.Int.{to_z-of_z}
use Rattle.ti_param.proofs.Alone.{alone_bytes, small_abs}
use Rattle.ti_param.proofs.output.Output.print.Goals as goal

pub returns-then-is_alone : goal.returns-then-is_alone
returns-then-is_alone c =
    let fits : FitsSigned w32 c.args.number = c.ranges.number in
    let printed = simp to_z-of_z at c.print_decimal.ensures in
    subst (λ bytes. OnOk c.print_decimal.result (c.print_decimal.new.self ≡ c.args.self.now ++ bytes))
    (alone_bytes c.args.form.now c.args.number c.args.text.now (small_abs c.args.number fits) c.if-is_alone.ensures) printed
