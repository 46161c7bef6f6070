use Rattle.std.proofs.Common.{◌≡◌, ◌∙◌, Some, ap, codes}
use Rattle.clap.specs.Walk.{first_of}
use Rattle.clap.specs.Words.{found_of, rows_of}
use Rattle.tools_commands.specs.Arguments.{rate_in}
use Rattle.everyday_words.proofs.Rates.{spelled_rate-parse}
use Rattle.everyday_words.proofs.tput_words.rate.Goals as goal

pub returns-in-Some : goal.returns-in-Some
returns-in-Some c =
    let is : Some c.in-Some.text.now ≡ first_of (codes "rate") (rows_of (found_of c.args.matches.now)) = c.in-Some.ensures in
    c.ok.ensures.value ∙ spelled_rate-parse c.in-Some.text.now c.parse.result c.parse.ensures.value.0 ∙ ap rate_in is
