use Rattle.std.proofs.lemmas.Result.{on_ok_weaker}
use Rattle.user_values.specs.inside.Entries.{held_seen}
use Rattle.user_values.proofs.Searching.{rises_shared, shares_all}
use Rattle.user_values.proofs.entries.add_all.Goals as goal

pub returns-then-is_none-clause-rise : goal.returns-then-is_none-clause-rise
returns-then-is_none-clause-rise c =
    rises_shared c.share.result c.args.held.now c.share.new.held c.args.other.now c.share.ensures.shared c.share.ensures.err c.requires.rise c.requires.other

pub returns-then-is_none-clause-added : goal.returns-then-is_none-clause-added
returns-then-is_none-clause-added c =
    on_ok_weaker c.share.result (shares_all c.args.held.now (held_seen c.share.new.held) (held_seen c.args.other.now) c.if-is_none.ensures)
    c.share.ensures.shared
