use Rattle.std.proofs.Common.{◌≡◌, Some, None, slice_get}
use Rattle.base_slots.specs.Slots.{holders_of}
use Rattle.base_slots.proofs.Owners.{first_holder, no_holder}
use Rattle.base_slots.proofs.slots.Slots.owner.Goals as goal

pub returns-clause-some : goal.returns-clause-some
returns-clause-some c = λ id e.
    let first : slice_get (holders_of c.args.self.now c.args.name.now) 0 ≡ Some id = cc in
    first_holder c.args.self.now c.args.name.now id first

pub returns-clause-none : goal.returns-clause-none
returns-clause-none c = λ e.
    let first : slice_get (holders_of c.args.self.now c.args.name.now) 0 ≡ None = cc in
    no_holder c.args.self.now c.args.name.now first
