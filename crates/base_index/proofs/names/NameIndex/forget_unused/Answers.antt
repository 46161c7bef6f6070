use Rattle.std.proofs.Common.{◌≡◌, None, [], length, sym, ◌∙◌}
use Rattle.std.proofs.lemmas.Bool.{eqb-true}
use Rattle.std.proofs.lemmas.List.{nil_from_length}
use Rattle.base_index.specs.Names.{holders_at, users_at}
use Rattle.base_index.proofs.Naming.{forgotten_seen, others_kept}
use Rattle.base_index.proofs.names.NameIndex.forget_unused.Goals as goal

pub returns-then-is_empty-2-clause-seen : goal.returns-then-is_empty-2-clause-seen
returns-then-is_empty-2-clause-seen c =
    let holders : holders_at c.args.self.now c.args.name.now ≡ [] =
    sym c.holders.ensures ∙ nil_from_length c.holders.result.now (eqb-true (length c.holders.result.now) 0 (sym c.if-is_empty.ensures)) in
    let users : users_at c.args.self.now c.args.name.now ≡ [] =
    sym c.users.ensures ∙ nil_from_length c.users.result.now (eqb-true (length c.users.result.now) 0 (sym c.if-is_empty-2.ensures)) in
    forgotten_seen c.args.self.now c.remove.new.self c.args.name.now c.remove.ensures.updates holders users

pub returns-then-is_empty-2-clause-others : goal.returns-then-is_empty-2-clause-others
returns-then-is_empty-2-clause-others c = others_kept c.args.name.now c.args.self.now.entries c.remove.new.self None c.remove.ensures.updates
