-- the words of a tool whose options clap reads are read as they are
use Rattle.std.proofs.Common.{◌≡◌, ◌∙◌, Bool, IfErr, List, ap, cond, subst, sym}
use Rattle.clap.specs.Walk.{Text}
use Rattle.tools_commands.specs.Arguments.{word_texts}
use Rattle.everyday_words.specs.Arguments.{TakesAs}
use Rattle.everyday_words.specs.Commands.{OfEachTool}
use Rattle.everyday_words.specs.Operands.{operand_line, read_words}
use Rattle.everyday_words.specs.Requests.{Wanted}
use Rattle.everyday_words.specs.declared.arguments.Refusal.TheVariants.{Memory}
use Rattle.everyday_words.proofs.arguments.request.Goals as goal

pub returns-clause-answered : goal.returns-clause-answered
returns-clause-answered c =
    let words = word_texts c.args.words.now in
    let answer = c.plain_request-2.result in
    let same : words ≡ read_words c.args.tool words =
    sym (ap (λ (b : Bool). cond b (operand_line words) words) (sym c.takes_operands.ensures ∙ c.if-takes_operands.false)) in
    subst (λ (ws : List Text). (wanted : Wanted) → OfEachTool c.args.tool (TakesAs c.args.tool ws wanted) → IfErr answer (λ refused. refused ≡ Memory))
    same c.plain_request-2.ensures.answered
