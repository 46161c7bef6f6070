-- the tool's own command finds the job, and clap finds no fault, as with the command of the program
use Rattle.std.proofs.Common.{rules, ◌≡◌, ◌∙◌, Some, Ok, List, subst, sym, ap, true, map, drop, take, length, ◌-◌, slice_get, option_map, string_bytes}
use Rattle.std.specs.Result.{result_ok}
use Rattle.clap.specs.Faults.{fault_of, is_simple_and_free}
use Rattle.clap.specs.Kinds.{FailsBy}
use Rattle.clap.specs.Walk.{Text}
use Rattle.clap.specs.Words.{HasMatchesOf, app_of}
use Rattle.clap.specs.declared.parser.matches.ArgMatches.{ArgMatches}
use Rattle.tools_commands.specs.inside.Commands.{app_for, choices_of, tool_app}
use Rattle.tools_commands.proofs.Tools.{asked-tool, no_faults-tool, others_of, second_of, some_of_answer}
use Rattle.tools_commands.proofs.arguments.job_of_tool.Goals as goal

pub returns-in-Ok : goal.returns-in-Ok
returns-in-Ok c =
    let words = map string_bytes c.args.words.now in
    let orders = choices_of c.tool_named.result in
    let are = c.tool_named.ensures.orders in
    let named : c.as_str-in-Ok.result.now ≡ string_bytes c.in-Some.name.now = search rules in
    let at : Some c.as_str-in-Ok.result.now ≡ slice_get words 1 = rw named
    (second_of string_bytes c.args.words.now c.in-Some.name.now c.in-Some.ensures.lookup.0 c.in-Some.ensures.lookup.1) in
    let app = app_of c.in_ok-command.command in
    let called : Some app ≡ option_map app_for c.tool_named.result = search rules in
    let same_name : c.as_str.result.now ≡ c.as_str-in-Ok.result.now = search rules in
    let is : Some app ≡ tool_app orders c.as_str-in-Ok.result.now = called ∙ c.tool_named.ensures.app ∙ ap (tool_app orders) same_name in
    let others : map string_bytes (take (length c.args.words.now - 1) (drop 1 c.args.words.now)) ≡ drop 1 words = others_of string_bytes c.args.words.now in
    let has = subst (λ (own : List Text). HasMatchesOf app own c.in-Ok.matches) others c.in-Ok.ensures.matches in
    let kinds = subst (λ (own : List Text). is_simple_and_free app ≡ true → FailsBy {T = ArgMatches} (fault_of app own) (Ok c.in-Ok.matches)) others
    c.in-Ok.ensures.kinds in
    some_of_answer c.tool_job.result c.ok.result _ _ c.ok.ensures.value c.tool_job.ensures
    (λ job task. (
      orders,
      are,
      (
        ap result_ok (sym (asked-tool orders words c.as_str-in-Ok.result.now app c.in-Ok.matches at is has) ∙ task),
        no_faults-tool orders words c.as_str-in-Ok.result.now app c.in-Ok.matches at is kinds,
      ),
    ))
