use Rattle.std.proofs.Common.{arith, rules}
use Rattle.ti_printing.proofs.Cuts.{parts_of-nil, parts_of-some, parts_of-first}
use Rattle.ti_printing.proofs.padding.PartsIterator.next.Goals as goal

pub returns-in_default-rest-clause-steps : goal.returns-in_default-rest-clause-steps
returns-in_default-rest-clause-steps c =
    let nil = parts_of-nil c.args.self.now.rest.now (omega arith) in
    (nil, nil)

pub returns-clause-steps : goal.returns-clause-steps
returns-clause-steps c = parts_of-first c.args.self.now.rest.now (omega arith) (search rules)

pub returns-clause-goes : goal.returns-clause-goes
returns-clause-goes c =
    let e = parts_of-first c.args.self.now.rest.now (omega arith) (search rules) in
    search rules

pub returns-in-Some-clause-steps : goal.returns-in-Some-clause-steps
returns-in-Some-clause-steps c = parts_of-some c.args.self.now.rest.now c.in-Some.rest.now c.in-Some.padding c.in-Some.ensures

pub returns-in-Some-clause-goes : goal.returns-in-Some-clause-goes
returns-in-Some-clause-goes c =
    let e = parts_of-some c.args.self.now.rest.now c.in-Some.rest.now c.in-Some.padding c.in-Some.ensures in
    search rules
