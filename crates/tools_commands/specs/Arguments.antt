-- What the words of a command line ask for: the job that the matches of clap for the words mean, or
-- what is wrong with them. (tic(1), infocmp(1), tput(1); the session is own)
use Rattle.std.specs.Prelude.{ℕ, ◌+◌, ◌^◌, ◌&&◌, ◌==◌, nat_lt, Bool, true, false, if◌then◌else◌, List, [], length, map, codes, String}
use Rattle.std.specs.Prelude.{Option, Some, None, Result, Ok, Err, unwrap_or}
use Rattle.std.specs.Option.{option_map_or}
use Rattle.std.specs.Result.{result_ok}
use Rattle.std.specs.String.{string_bytes}
use Rattle.std.specs.declared.alloc.Global.{Global}
use Rattle.std.specs.Str.{all_ascii_digits, bytes_eq}
use Rattle.std.specs.Str.Parse.{digits_value, without_leading_plus}
use Rattle.clap.specs.Simple.{App, subcommand_of}
use Rattle.clap.specs.Walk.{Row, Text, all_of, first_of}
use Rattle.ti_text.specs.Limits.{parameters_max}
use Rattle.tools_commands.specs.InfocmpWords.{infocmp_task}
use Rattle.tools_commands.specs.Matches.{is_on}
use Rattle.tools_commands.specs.Names.{infocmp_name, session_name, tic_name, tput_name}
use Rattle.tools_commands.specs.Tasks.{Task, task_session, task_tic, task_tput}
use Rattle.tools_commands.specs.declared.mistakes.Mistake.{Mistake}
use Rattle.tools_commands.specs.declared.mistakes.Mistake.TheVariants as mistake

-- the words of a command line, byte for byte
abbrev pub word_texts : List (String Global) → List Text
word_texts words = map string_bytes words

-- what the words ask for: a job, or none, with what is wrong
abbrev pub Asked : Type 0
Asked = Result Task Mistake

-- the job of `tic` with these matches: whether `-c` is there, and the value of `-o` and the file,
-- if they are there
abbrev pub tic_task : List Row → Task
tic_task rows =
    task_tic (is_on (codes "check") rows) (first_of (codes "dir") rows) (first_of (codes "file") rows)

-- the number of 32 bits that decimal digits spell; a plus may be before them
unfoldable pub spelled_rate : Text → Option ℕ
spelled_rate text =
    let digits = without_leading_plus text in
    if nat_lt 0 (length digits) && all_ascii_digits digits && nat_lt (digits_value 10 digits) (2 ^ 32) then Some (digits_value 10 digits)
    else None

-- the rate of `--rate`, 0 if it is not there
abbrev pub rate_in : Option Text → Option ℕ
rate_in None = Some 0
rate_in (Some text) = spelled_rate text

-- the words of `tput`: a capability's name and its parameters
abbrev pub words_in : List Row → List Text
words_in rows = unwrap_or (all_of (codes "words") rows) []

-- what is wrong with this number of words: with `-S` there may be none, else there is a name, and
-- at most `parameters_max` parameters
abbrev pub words_mistake : Bool → ℕ → Option Mistake
words_mistake true count = if count == 0 then None else Some mistake.CapabilityBesideLines
words_mistake false count =
    if count == 0 then Some mistake.NoCapability
    else if nat_lt (parameters_max + 1) count then Some mistake.TooManyParameters
    else None

-- a job, if nothing is wrong
abbrev pub unless : Option Mistake → Task → Asked
unless None task = Ok task
unless (Some wrong) task = Err wrong

-- the job of `tput` with such a rate and such words, if the words may be there
abbrev pub tput_at : Bool → Option Text → Option ℕ → List Text → Asked
tput_at lines term None words = Err mistake.NoCommandLine
tput_at lines term (Some rate) words = unless (words_mistake lines (length words)) (task_tput lines term rate words)

-- the job of `tput` with these matches and words
abbrev pub tput_with : List Row → List Text → Asked
tput_with rows words = tput_at (is_on (codes "lines") rows) (first_of (codes "term") rows) (rate_in (first_of (codes "rate") rows)) words

-- the job of `tput` with these matches
abbrev pub tput_task : List Row → Asked
tput_task rows = tput_with rows (words_in rows)

-- the job of a subcommand with these matches
abbrev pub task_at : Text → List Row → Asked
task_at name rows =
    if bytes_eq name tic_name then Ok (tic_task rows)
    else if bytes_eq name tput_name then tput_task rows
    else if bytes_eq name session_name then Ok task_session
    else if bytes_eq name infocmp_name then infocmp_task rows
    else Err mistake.NoCommandLine

-- the job of the subcommand that was used, with its matches
abbrev pub task_in : Option (Text × List Row) → Asked
task_in used = option_map_or (λ p. task_at p.0 p.1) used (Err mistake.NoCommandLine)

-- what the words ask for, by a command line of the program
abbrev pub asked_of : App → List Text → Asked
asked_of app words = task_in (subcommand_of app words)

-- the job that the words ask for, or none
abbrev pub job_of : App → List Text → Option Task
job_of app words = result_ok (asked_of app words)
