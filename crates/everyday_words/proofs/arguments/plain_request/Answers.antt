-- clap's answer is that of its definition of the tool's command line
use Rattle.std.proofs.Common.{◌∙◌, ap, map, string_bytes}
use Rattle.clap.specs.Simple.{App}
use Rattle.clap.specs.Takes.{takes}
use Rattle.everyday_words.proofs.Asked.{answered-taken, asked-matches, memory_alone, no_faults, refused-fault, refused-taken, right-taken}
use Rattle.everyday_words.proofs.arguments.plain_request.Goals as goal

pub returns-in-Ok-clause-right : goal.returns-in-Ok-clause-right
returns-in-Ok-clause-right c =
    let app = c.in_ok-command.ensures in
    let same = asked-matches _ _ _ c.in-Ok.matches app.0 app.2 c.in-Ok.ensures.matches in
    let no_fault = no_faults _ _ _ c.in-Ok.matches app.0 app.2 c.in-Ok.ensures.kinds in
    right-taken _ _ app.0 app.1 _ same no_fault c.taken_request.result c.taken_request.ensures

pub returns-in-Ok-clause-answered : goal.returns-in-Ok-clause-answered
returns-in-Ok-clause-answered c =
    let app = c.in_ok-command.ensures in
    let same = asked-matches _ _ _ c.in-Ok.matches app.0 app.2 c.in-Ok.ensures.matches in
    let no_fault = no_faults _ _ _ c.in-Ok.matches app.0 app.2 c.in-Ok.ensures.kinds in
    answered-taken _ _ app.0 app.1 _ same no_fault c.taken_request.result c.taken_request.ensures

pub returns-in-Ok-clause-refused : goal.returns-in-Ok-clause-refused
returns-in-Ok-clause-refused c =
    let app = c.in_ok-command.ensures in
    let same = asked-matches _ _ _ c.in-Ok.matches app.0 app.2 c.in-Ok.ensures.matches in
    let no_fault = no_faults _ _ _ c.in-Ok.matches app.0 app.2 c.in-Ok.ensures.kinds in
    refused-taken _ _ app.0 app.1 _ same no_fault c.taken_request.result c.taken_request.ensures

pub returns-in_ok-refusal_by-in-Err-clause-answered : goal.returns-in_ok-refusal_by-in-Err-clause-answered
returns-in_ok-refusal_by-in-Err-clause-answered c = λ wanted takes_words.
    let app = c.in_ok-command.ensures in
    let taken = ap (λ (a : App). takes a (map string_bytes c.args.words.now)) app.2 ∙ (takes_words app.0 app.1).1 in
    memory_alone _ _ (c.in-Err.ensures.passes taken) c.in_ok-refusal_by-in-Err.ensures

pub returns-in_ok-refusal_by-in-Err-clause-refused : goal.returns-in_ok-refusal_by-in-Err-clause-refused
returns-in_ok-refusal_by-in-Err-clause-refused c =
    let app = c.in_ok-command.ensures in
    refused-fault _ _ _ c.in-Err.error _ app.0 app.1 app.2 c.in-Err.ensures.kinds c.in_ok-refusal_by-in-Err.ensures
