use Rattle.std.proofs.Common.{refl}
use Rattle.ti_layout.specs.declared.layout.Format.TheVariants.{Legacy}
use Rattle.user_extension.proofs.Fronts.{begun, number_put}
use Rattle.user_extension.proofs.writing.push_header.Goals as goal

pub returns : goal.returns
returns c =
    let p0 = begun Legacy c.args.image.now.items in
    let p1 = number_put Legacy c.args.image.now.items _ _ _ _ _ p0 c.in_ok-push_number.ensures refl in
    let p2 = number_put Legacy c.args.image.now.items _ _ _ _ _ p1 c.in_ok-push_number-2.ensures refl in
    let p3 = number_put Legacy c.args.image.now.items _ _ _ _ _ p2 c.in_ok-push_number-3.ensures refl in
    let p4 = number_put Legacy c.args.image.now.items _ _ _ _ _ p3 c.in_ok-push_number-4.ensures refl in
    number_put Legacy c.args.image.now.items _ _ _ _ _ p4 c.in_ok-push_number-5.ensures refl
