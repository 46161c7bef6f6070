-- the cause of the refusal
use Rattle.std.proofs.Common.{◌∙◌, ap, subst, sym}
use Rattle.tools_commands.specs.Arguments.{word_texts}
use Rattle.tools_commands.specs.Jobs.{IsUsageRefusal, cause_of}
use Rattle.tools_commands.proofs.Asked.{cause-refusal}
use Rattle.tools_commands.proofs.arguments.job.Goals as goal

pub returns-in-Err-clause-answered : goal.returns-in-Err-clause-answered
returns-in-Err-clause-answered c = λ task takes. c.cause.ensures ∙ ap cause_of (c.in-Err.ensures.answered task takes)

pub returns-in-Err-clause-refused : goal.returns-in-Err-clause-refused
returns-in-Err-clause-refused c =
    subst (IsUsageRefusal (word_texts c.args.words.now)) (sym c.cause.ensures)
    (cause-refusal (word_texts c.args.words.now) c.in-Err.refused c.in-Err.ensures.refused)
