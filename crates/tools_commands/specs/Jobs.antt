-- The jobs of the program, and why words ask for none (own).
use Rattle.std.specs.Prelude.{◌≡◌, ◌⊎◌, ⊤, ℕ, List, [], Some, None, Option, Err, true, map, option_map}
use Rattle.std.specs.String.{string_bytes}
use Rattle.clap.specs.Kinds.{IsAmong, Kinds}
use Rattle.clap.specs.declared.error.kind.ErrorKind.{ErrorKind}
use Rattle.clap.specs.declared.error.kind.ErrorKind.TheVariants as kind
use Rattle.clap.specs.Walk.{Text}
use Rattle.clap.specs.Faults.{fault_of}
use Rattle.clap.specs.Simple.{App}
use Rattle.clap.specs.Takes.{takes}
use Rattle.tools_commands.specs.Arguments.{Asked, asked_of, job_of}
use Rattle.tools_commands.specs.Commands.{OfProgram}
use Rattle.tools_commands.specs.Mistakes.{usage_line}
use Rattle.tools_commands.specs.Names.{infocmp_name, session_name, tic_name, tput_name}
use Rattle.tools_commands.specs.Tasks.{Task, task_infocmp, task_session, task_tic, task_tput}
use Rattle.tools_commands.specs.declared.arguments.UsageError.{UsageError}
use Rattle.tools_commands.specs.declared.arguments.UsageError.TheVariants as usage
use Rattle.tools_commands.specs.declared.arguments.Refusal.{Refusal}
use Rattle.tools_commands.specs.declared.arguments.Refusal.TheVariants as refusal
use Rattle.tools_commands.specs.declared.jobs.Job.{Job}
use Rattle.tools_commands.specs.declared.jobs.Job.TheVariants.{Infocmp, Session, Tic, Tput}

-- a job that holds its words in memory, as plain data
abbrev pub task_of : Job → Task
task_of (Tic check dir file) =
    task_tic check (option_map string_bytes dir) (option_map string_bytes file)
task_of (Tput lines term rate words) = task_tput lines (option_map string_bytes term) rate (map string_bytes words.items)
task_of Session = task_session
task_of (Infocmp mode names layout first_dir other_dir) = task_infocmp (record {
  mode = mode;
  names = map string_bytes names.items;
  layout = layout;
  first_dir = option_map string_bytes first_dir;
  other_dir = option_map string_bytes other_dir;
})

-- the name of the tool that does the job
abbrev pub tool_name : Job → List ℕ
tool_name (Tic check dir file) = tic_name
tool_name (Infocmp mode names layout first_dir other_dir) = infocmp_name
tool_name (Tput lines term rate words) = tput_name
tool_name Session = session_name

-- a refusal, without what is said
abbrev pub cause_of : Refusal → UsageError
cause_of (refusal.Usage said) = usage.Usage
cause_of (refusal.Help said) = usage.Help
cause_of refusal.Memory = usage.Memory

-- what a fault that clap finds is to the program
abbrev pub refusal_of : ErrorKind → UsageError
refusal_of kind.DisplayHelp = usage.Help
refusal_of kind.OutOfMemory = usage.Memory
refusal_of _ = usage.Usage

-- why words are refused, given the faults that clap's definition finds in them and the job that
-- they ask for: by one of the faults, or as no job
abbrev pub IsUsageFault : Kinds → Option Task → UsageError → Type 0
IsUsageFault faults job e =
    ((k : ErrorKind) × IsAmong k faults × (e ≡ refusal_of k)) ⊎ ((faults ≡ []) × (job ≡ None) × (e ≡ usage.Usage))

-- why the words are refused: memory, or what is wrong by the program's command line
abbrev pub IsUsageRefusal : List Text → UsageError → Type 0
IsUsageRefusal words e =
    (e ≡ usage.Memory) ⊎ OfProgram (λ app. IsUsageFault (fault_of app words) (job_of app words) e)

-- the job is what the words ask for by a command line, in which clap's definition finds no fault
abbrev pub IsJobOf : List Text → Job → App → Type 0
IsJobOf words job app = (job_of app words ≡ Some (task_of job)) × (fault_of app words ≡ [])

-- the words ask for this by a command line, and clap's definition takes them
abbrev pub TakesAs : List Text → Task → App → Type 0
TakesAs words task app = (job_of app words ≡ Some task) × (takes app words ≡ true)

-- a refusal of usage says what is wrong
abbrev pub SaysWrong : Asked → Refusal → Type 0
SaysWrong (Err wrong) (refusal.Usage said) = string_bytes said ≡ usage_line wrong
SaysWrong _ _ = ⊤

-- a refusal of usage says what is wrong: if clap's definition finds no fault, its message is the
-- line of the mistake
abbrev pub IsRefusalOf : List Text → Refusal → Type 0
IsRefusalOf words refused =
    (refused ≡ refusal.Memory) ⊎ OfProgram (λ app. IsUsageFault (fault_of app words) (job_of app words) (cause_of refused)
    × (fault_of app words ≡ [] → SaysWrong (asked_of app words) refused))
