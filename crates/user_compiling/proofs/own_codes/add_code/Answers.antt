use Rattle.std.proofs.Common.{map, drop, sym}
use Rattle.ti_source.specs.Reading.{fault_of}
use Rattle.user_items.specs.Reading.{user_fault_of}
use Rattle.user_compiling.proofs.Pairs.{code_added, tail_of_faults}
use Rattle.user_compiling.proofs.own_codes.add_code.Goals as goal

pub returns-in_ok-push-in-Some-clause-added : goal.returns-in_ok-push-in-Some-clause-added
returns-in_ok-push-in-Some-clause-added c = λ fs.
    let own = c.args.own.now in
    let next = c.args.next.now in
    code_added (fault_of c.args.local.now) fs (map user_fault_of (drop next own)) _ c.in-Some.code c.args.codes.now.items c.push.new.self.items
    (sym c.if-not-is_user_warning.ensures) c.in-Some.ensures.code
    (tail_of_faults user_fault_of next own) c.in_ok-push-in-Some.ensures.items
