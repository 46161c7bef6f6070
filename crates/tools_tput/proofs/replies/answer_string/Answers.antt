use Rattle.std.proofs.Common.{map, ◌∙◌, sym, subst, Bor, List, ℕ}
use Rattle.tools_tput.specs.Results.{AnswersString}
use Rattle.tools_tput.proofs.Answering.{string_so}
use Rattle.tools_tput.proofs.replies.answer_string.Goals as goal

pub returns-clause-answer : goal.returns-clause-answer
returns-clause-answer c =
    let words = map (λ (word : Bor (List ℕ)). word.now) c.args.words.now in
    subst (AnswersString c.args.line.now c.args.cap.now words c.args.statics.now c.args.text.now)
    (sym (c.outcome_of.ensures c.string.new.statics ∙ c.in_ok-made.ensures.string))
    (string_so c.args.line.now c.args.cap.now words c.args.statics.now c.args.text.now)
