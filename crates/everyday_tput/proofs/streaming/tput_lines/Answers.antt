use Rattle.std.proofs.Common.{◌∙◌, ap}
use Rattle.std.specs.Prelude.{option_map}
use Rattle.everyday_tput.specs.Answers.{target_of}
use Rattle.everyday_tput.specs.Runs.{TerminalState, lines_start}
use Rattle.everyday_tput.specs.inside.Terminal.{IsInState}
use Rattle.everyday_tput.proofs.Lines.{all_complete, all_stopped}
use Rattle.everyday_tput.proofs.streaming.tput_lines.Goals as goal

pub returns-in-Ok-clause-ends : goal.returns-in-Ok-clause-ends
returns-in-Ok-clause-ends g c =
    let start : TerminalState = record { target = target_of c.args.target.now; run = lines_start } in
    all_complete start c.answer_lines.new.interpreter _ _ _ _ _ (c.in-Ok.ensures.ends start c.new-terminal.ensures)
    (λ target run holds. (c.status.ensures target run holds, ap (option_map (λ name. name.items)) c.into_name.ensures ∙ holds.ended))

pub returns-in-Err-clause-ends : goal.returns-in-Err-clause-ends
returns-in-Err-clause-ends g c =
    let start : TerminalState = record { target = target_of c.args.target.now; run = lines_start } in
    all_stopped start (IsInState c.answer_lines.new.interpreter) _ _ _ _ c.in-Err.error (c.in-Err.ensures.ends start c.new-terminal.ensures)
