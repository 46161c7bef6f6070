use Rattle.std.proofs.lemmas.Result.{err_from_is_err_and}
use Rattle.tools_devices.specs.Counted.{observation}
use Rattle.tools_session.specs.Script.{session_start}
use Rattle.tools_session.specs.inside.Editor.{HasState}
use Rattle.tools_session.proofs.Ending.{ScriptEnds-closed, ScriptEnds-stopped}
use Rattle.tools_session.proofs.streaming.session.Goals as goal

pub returns-in_err-answer_lines-clause-ends : goal.returns-in_err-answer_lines-clause-ends
returns-in_err-answer_lines-clause-ends g c =
    let e = err_from_is_err_and c.from_residual-in_err-answer_lines.result c.from_residual-in_err-answer_lines.ensures.1 in
    rw (e.1, e.2) (ScriptEnds-stopped _ _ _ _ (HasState c.answer_lines.new.interpreter) _
    (c.in_err-answer_lines.ensures.ends session_start c.in_ok-editor.ensures))

pub returns-clause-ends : goal.returns-clause-ends
returns-clause-ends g c =
    let a = c.in_ok-answer_lines.ensures.ends session_start c.in_ok-editor.ensures in
    ScriptEnds-closed _ _ _ (observation g.W.Write.contents c.answer_lines.new.writer) _ _ a _ (c.close.ensures a.end a.holds)
