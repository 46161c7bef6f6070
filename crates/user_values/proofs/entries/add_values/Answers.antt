use Rattle.std.proofs.Common.{sym, subst}
use Rattle.std.proofs.lemmas.Result.{on_ok_weaker}
use Rattle.user_values.specs.Tables.{TableSeen}
use Rattle.user_values.specs.inside.Entries.{held_seen, AddsValues}
use Rattle.user_values.proofs.Searching.{rises_shared}
use Rattle.user_values.proofs.entries.add_values.Goals as goal

pub returns-then-can_share-clause-rise : goal.returns-then-can_share-clause-rise
returns-then-can_share-clause-rise c =
    rises_shared c.share.result c.args.held.now c.share.new.held c.args.other.now c.share.ensures.shared c.share.ensures.err c.requires.rise c.requires.other

pub returns-then-can_share-clause-added : goal.returns-then-can_share-clause-added
returns-then-can_share-clause-added c =
    on_ok_weaker c.share.result
    (λ same. subst (λ (t : TableSeen). AddsValues (held_seen c.args.other.now) (held_seen c.args.held.now) t) (sym same)
    (c.can_share.ensures c.if-can_share.true))
    c.share.ensures.shared
