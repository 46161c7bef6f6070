-- What reading the matches of a tool returns (own).
use Rattle.std.specs.Prelude.{◌≡◌, ◌⊎◌, ⊤, Ok, Err, Result, MatchResult}
use Rattle.tools_commands.specs.declared.mistakes.Mistake.{Mistake}
use Rattle.everyday_words.specs.Arguments.{Asked, SaysWrong}
use Rattle.everyday_words.specs.Requests.{Wanted, wanted_of}
use Rattle.everyday_words.specs.declared.arguments.Refusal.{Refusal}
use Rattle.everyday_words.specs.declared.arguments.Refusal.TheVariants as refusal
use Rattle.everyday_words.specs.declared.mistakes.NoRequest.{NoRequest}
use Rattle.everyday_words.specs.declared.mistakes.NoRequest.TheVariants as no_request
use Rattle.everyday_arguments.specs.declared.names.Tool.{Tool}
use Rattle.everyday_words.specs.declared.requests.Request.{Request}

-- why nothing is asked for; out of memory may come at any time
abbrev pub IsNoRequest : Result Wanted Mistake → NoRequest → Type 0
IsNoRequest asked no_request.Memory = ⊤
IsNoRequest asked (no_request.Wrong mistake) = asked ≡ Err mistake

-- the answer is what is asked for
abbrev pub Answers : Result Wanted Mistake → Result Request NoRequest → Type 0
Answers asked answer = MatchResult answer (λ request. asked ≡ Ok (wanted_of request)) (IsNoRequest asked)

-- the answer to words that clap takes: what is asked for, or the line that says what is wrong
abbrev pub AnswersTaken : Tool → Asked → Result Request Refusal → Type 0
AnswersTaken t asked answer = MatchResult answer (λ request. asked ≡ Ok (wanted_of request))
    (λ refused. (refused ≡ refusal.Memory) ⊎ SaysWrong t asked refused)
