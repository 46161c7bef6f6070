use Rattle.std.proofs.Common.{◌++◌, [], map, sym, ap, ◌∙◌}
use Rattle.std.specs.Rc.{rc_slice_items}
use Rattle.std.proofs.lemmas.List.{append-nil}
use Rattle.base_meaning.specs.Faults.{fault_seen, is_owned_before, name_fault}
use Rattle.base_slots.specs.Slots.{blocks_of}
use Rattle.ti_base.proofs.Naming.{none_once}
use Rattle.ti_base.proofs.faults.add_name_faults.Goals as goal

pub returns-then-not-has_duplicate : goal.returns-then-not-has_duplicate
returns-then-not-has_duplicate c =
    let all = map fault_seen c.args.faults.now.items in
    let names = map rc_slice_items c.args.names.now in
    let none = none_once (is_owned_before (blocks_of c.args.slots.now) c.args.at) [] names (sym c.if-not-has_duplicate.ensures) in
    sym (append-nil all) ∙ ap (λ fs. all ++ map (name_fault c.args.at) fs) (sym none)
