use Rattle.std.proofs.Common.{◌∙◌, ◌++◌, map, drop, refl, sym, ap}
use Rattle.base_meaning.specs.Faults.{fault_seen as profile_fault_seen}
use Rattle.user_compiling.specs.Faults.{fault_seen}
use Rattle.user_compiling.specs.inside.Pairs.{replaced}
use Rattle.user_compiling.proofs.SourceFaults.{one_replaced, tail_of_drop}
use Rattle.user_compiling.proofs.block_faults.replace_one.Goals as goal

pub returns-then-is_user_warning-clause-added : goal.returns-then-is_user_warning-clause-added
returns-then-is_user_warning-clause-added c = λ fs.
    let f = profile_fault_seen c.args.fault.now in
    let codes = c.args.codes.now in
    let next = c.args.next.now in
    let new = map fault_seen c.push_in_place.new.faults.items in
    ap (λ cs. new ++ replaced fs cs) (sym (tail_of_drop next codes))
    ∙ one_replaced f fs (drop next codes) c.code_at.result (map fault_seen c.args.faults.now.items) new _
    (sym c.if-is_user_warning.ensures) c.code_at.ensures refl c.in_ok-push_in_place.ensures
