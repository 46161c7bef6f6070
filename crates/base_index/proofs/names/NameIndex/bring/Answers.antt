use Rattle.std.proofs.Common.{◌≡◌, None, sym}
use Rattle.base_index.specs.declared.names.Mentions.{Mentions}
use Rattle.base_index.specs.Names.{mentions_at}
use Rattle.base_index.proofs.Naming.{brought_key_seen, brought_key_capacity, none_from_test}
use Rattle.base_index.proofs.names.NameIndex.bring.Goals as goal

pub returns-clause-seen : goal.returns-clause-seen
returns-clause-seen c =
    let w : Mentions = record { holders = c.new.result; users = c.new-2.result } in
    let absent : mentions_at c.args.self.now c.args.name.now ≡ None =
    none_from_test (mentions_at c.args.self.now c.args.name.now) (sym c.if-contains_key.ensures) in
    brought_key_seen c.args.self.now c.insert.new.self c.in_ok-key.key.items c.args.name.now w c.in_ok-key.ensures.items absent
    c.in_ok-insert.ensures.updates c.new.ensures.items c.new-2.ensures.items

pub returns-clause-capacity : goal.returns-clause-capacity
returns-clause-capacity c =
    let w : Mentions = record { holders = c.new.result; users = c.new-2.result } in
    let absent : mentions_at c.args.self.now c.args.name.now ≡ None =
    none_from_test (mentions_at c.args.self.now c.args.name.now) (sym c.if-contains_key.ensures) in
    brought_key_capacity c.args.self.now c.insert.new.self c.in_ok-key.key.items c.args.name.now w c.in_ok-key.ensures.items absent
    c.in_ok-insert.ensures.updates
