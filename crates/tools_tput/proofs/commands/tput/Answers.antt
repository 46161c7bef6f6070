use Rattle.std.proofs.Common.{subst, map, Bor, List, ℕ}
use Rattle.ti_layout.specs.View.{entry_seen}
use Rattle.tools_tput.specs.inside.Commands.{AnswersWords}
use Rattle.tools_tput.specs.inside.Results.{tput_result}
use Rattle.tools_tput.proofs.Answering.{command_answered}
use Rattle.tools_tput.proofs.commands.tput.Goals as goal

pub returns : goal.returns
returns c =
    let words = map (λ (word : Bor (List ℕ)). word.now) c.args.words.now in
    command_answered (entry_seen c.args.view.now) c.args.rate _ c.answer.new.statics words c.answer.result
    (subst (λ s. AnswersWords c.answer.result c.answer.new.statics (tput_result (entry_seen c.args.view.now) words c.args.rate s)) c.new-statics.ensures
    (c.answer.ensures.answer c.args.rate c.terminal_line-line.ensures))
