use Rattle.std.proofs.Common.{◌≡◌, inl, inr, Some, None, sym, rules, arith}
use Rattle.base_index.specs.declared.names.Mentions.{Mentions}
use Rattle.base_index.specs.Names.{found_in}
use Rattle.base_index.proofs.LawProofs.{lists_none}
use Rattle.base_index.proofs.Naming.{others_kept}
use Rattle.base_index.proofs.names.NameIndex.add_holder.Goals as goal

pub put_in-requires-clause-among : goal.put_in-requires-clause-among
put_in-requires-clause-among c =
    let found : found_in c.args.self.now.entries c.args.name.now ≡ Some c.in-Some.mentions.now = sym c.in-Some.ensures.value in
    rw found at c.requires.among

pub returns-in-Some-clause-others : goal.returns-in-Some-clause-others
returns-in-Some-clause-others c = λ other n.
    let new : Mentions = record { holders = c.put_in.new.list; users = c.in-Some.mentions.now.users } in
    others_kept c.args.name.now c.args.self.now.entries (c.get_mut.follows.lender new) (Some new) ((c.get_mut.follows.holds new).3 (search rules)) other n

pub returns-in_default-clause-holders : goal.returns-in_default-clause-holders
returns-in_default-clause-holders c =
    let found : found_in c.args.self.now.entries c.args.name.now ≡ None = sym c.in_default.ensures.value in
    elim (rw found at c.requires.room) [
      | inl room ↦ absurd (omega arith)
      | inr lists ↦ absurd (lists_none c.args.order.now.listed c.args.id c.requires.stands.0 c.requires.stands.1 lists)
    ]
