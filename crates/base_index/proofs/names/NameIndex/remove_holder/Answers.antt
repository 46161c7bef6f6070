use Rattle.std.proofs.Common.{◌≡◌, Some, None, sym, rules}
use Rattle.base_index.specs.declared.names.Mentions.{Mentions}
use Rattle.base_index.specs.Names.{found_in}
use Rattle.base_index.proofs.Naming.{others_kept, nothing_left}
use Rattle.base_index.proofs.names.NameIndex.remove_holder.Goals as goal

pub take_out-requires-clause-among : goal.take_out-requires-clause-among
take_out-requires-clause-among c =
    let found : found_in c.args.self.now.entries c.args.name.now ≡ Some c.in-Some.mentions.now = sym c.in-Some.ensures.value in
    rw found at c.requires.among

pub returns-in-Some-clause-others : goal.returns-in-Some-clause-others
returns-in-Some-clause-others c = λ other n.
    let new : Mentions = record { holders = c.take_out.new.list; users = c.in-Some.mentions.now.users } in
    others_kept c.args.name.now c.args.self.now.entries (c.get_mut.follows.lender new) (Some new) ((c.get_mut.follows.holds new).3 (search rules)) other n

pub returns-in_default-clause-holders : goal.returns-in_default-clause-holders
returns-in_default-clause-holders c = λ test e.
    let found : found_in c.args.self.now.entries c.args.name.now ≡ None = sym c.in_default.ensures.value in
    rw (c.get_mut.follows.holds-at-none, found) (nothing_left c.args.order.now.listed c.args.id test (rw found at e))
