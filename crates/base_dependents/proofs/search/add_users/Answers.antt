use Rattle.std.proofs.Common.{◌<◌, take, length, get_or, arith}
use Rattle.std.proofs.lemmas.List.{take_more}
use Rattle.base_dependents.proofs.Adding.{adds_item, adds_all}
use Rattle.base_dependents.proofs.search.add_users.Goals as goal

pub loop-id-preserved : goal.loop-id-preserved
loop-id-preserved c =
    let users = c.users-id-items.result.now in
    let at = c.loop-id.id-index in
    let within : at < length users = omega arith in
    rw (take_more users at 0 within)
    (adds_item (take at users) (get_or users at 0) c.args.found.now.keys c.loop-id.found.keys c.insert.new.self.keys c.loop-id.invariant
    c.in_ok-insert.ensures.keys)

pub returns : goal.returns
returns c = adds_all c.args.slots.now c.args.name.now c.users-id-items.result.now c.loop-id.id-index c.args.found.now.keys c.loop-id.found.keys
    c.users-id-items.ensures c.loop-id-test.false c.loop-id.invariant
