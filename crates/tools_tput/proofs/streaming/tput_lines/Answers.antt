use Rattle.std.proofs.lemmas.Result.{err_from_is_err_and}
use Rattle.ti_layout.specs.View.{entry_seen}
use Rattle.tools_tput.specs.Runs.{lines_start}
use Rattle.tools_tput.specs.inside.Terminal.{IsInState, state_at}
use Rattle.tools_tput.proofs.Ending.{CommandsEnd-complete, CommandsEnd-stopped}
use Rattle.tools_tput.proofs.streaming.tput_lines.Goals as goal

pub returns-in_err-answer_lines-clause-ends : goal.returns-in_err-answer_lines-clause-ends
returns-in_err-answer_lines-clause-ends g c =
    let e = err_from_is_err_and c.from_residual.result c.from_residual.ensures.1 in
    rw (e.1, e.2) (CommandsEnd-stopped (entry_seen c.args.view.now) c.args.rate _ _ _ _ (IsInState c.answer_lines.new.interpreter) _
    (c.in_err-answer_lines.ensures.ends (state_at (entry_seen c.args.view.now) c.args.rate lines_start) c.new-terminal.ensures))

pub returns-clause-ends : goal.returns-clause-ends
returns-clause-ends g c =
    let a = c.in_ok-answer_lines.ensures.ends (state_at (entry_seen c.args.view.now) c.args.rate lines_start) c.new-terminal.ensures in
    CommandsEnd-complete (entry_seen c.args.view.now) c.args.rate _ _ _ _ _ a _ (c.status.ensures a.end.entry a.end.rate a.end.run a.holds)
