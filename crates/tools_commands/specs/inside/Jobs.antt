-- What reading the matches of a tool returns (own).
use Rattle.std.specs.Prelude.{◌≡◌, ◌⊎◌, ⊤, Ok, Err, Result, MatchResult, String}
use Rattle.std.specs.String.{string_bytes}
use Rattle.std.specs.declared.alloc.Global.{Global}
use Rattle.tools_commands.specs.Arguments.{Asked}
use Rattle.tools_commands.specs.Jobs.{task_of}
use Rattle.tools_commands.specs.Mistakes.{usage_line}
use Rattle.tools_commands.specs.declared.arguments.Refusal.{Refusal}
use Rattle.tools_commands.specs.declared.arguments.Refusal.TheVariants as refusal
use Rattle.tools_commands.specs.declared.jobs.Job.{Job}
use Rattle.tools_commands.specs.declared.mistakes.Mistake.{Mistake}
use Rattle.tools_commands.specs.declared.mistakes.NoJob.{NoJob}
use Rattle.tools_commands.specs.declared.mistakes.NoJob.TheVariants as no_job

-- why there is no job if this is asked for; out of memory may come at any time
abbrev pub IsNoJob : Asked → NoJob → Type 0
IsNoJob asked no_job.Memory = ⊤
IsNoJob asked (no_job.Wrong mistake) = asked ≡ Err mistake

-- the answer is what is asked for
abbrev pub Answers : Asked → Result Job NoJob → Type 0
Answers asked answer = MatchResult answer (λ job. asked ≡ Ok (task_of job)) (IsNoJob asked)

-- the answer to words that clap takes: the job, or its mistake with the line of the message
abbrev pub AnswersTaken : Asked → Result Job Refusal → Type 0
AnswersTaken asked answer = MatchResult answer (λ job. asked ≡ Ok (task_of job))
    (λ refused. (refused ≡ refusal.Memory)
    ⊎ ((wrong : Mistake) × (asked ≡ Err wrong) × (said : String Global) × (refused ≡ refusal.Usage said) × (string_bytes said ≡ usage_line wrong)))
