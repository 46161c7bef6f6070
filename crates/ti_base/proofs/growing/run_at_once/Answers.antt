use Rattle.ti_base.proofs.SlotExchanges.{read_none, rule_none}
use Rattle.ti_base.proofs.growing.run_at_once.Goals as goal

pub change_all-requires-clause-read : goal.change_all-requires-clause-read
change_all-requires-clause-read c = read_none c.new-slots.result c.new-slots.ensures.placed

pub change_all-requires-clause-ruled : goal.change_all-requires-clause-ruled
change_all-requires-clause-ruled c = rule_none c.args.rule c.new-slots.result c.new-slots.ensures.placed

pub returns-clause-ruled : goal.returns-clause-ruled
returns-clause-ruled c = c.in_ok-rebuild_all.ensures.ruled c.args.rule c.change_all.ensures.ruled
