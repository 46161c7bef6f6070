-- Commands one after another (tput(1)): what they write, and where they stop.
use Rattle.std.specs.Prelude.{◌≡◌, ℕ, ◌+◌, ◌==◌, Bool, true, false, not, if◌then◌else◌, List, [], ◌∷◌, ◌++◌, Option, Some, None, ℤ}
use Rattle.tools_tput.specs.Results.{Reply, bad_status}
use Rattle.everyday_tput.specs.Answers.{Answers, Command, FullTarget, name_of}
use Rattle.everyday_tput.specs.Commands.{AreCommands}
use Rattle.everyday_tput.specs.declared.running.Until.{Until}
use Rattle.everyday_tput.specs.declared.running.Until.TheVariants.{Failure, BadCommand}

-- the command at which others stop: its name, and its status
pub record Stop : Type 0 where
  pub name : List ℕ
  pub status : ℕ

-- what commands do: what they write, the static variables after them, how many were passed over
-- whose status is not 0, and the one at which they stop, if they do
pub record Run : Type 0 where
  pub bytes : List ℕ
  pub statics : List ℤ
  pub passed : ℕ
  pub stop : Option Stop

-- whether the next command is run after one of that status: only after 0, or after any but that of
-- an unknown capability
abbrev pub goes_on : Until → ℕ → Bool
goes_on Failure status = status == 0
goes_on BadCommand status = not (status == bad_status)

-- no command
abbrev pub nothing : List ℤ → Run
nothing statics = record { bytes = []; statics = statics; passed = 0; stop = None }

-- a command, and no other after it
abbrev pub stopped : Reply → List ℕ → Run
stopped answer name =
    record { bytes = answer.bytes; statics = answer.statics; passed = 0; stop = Some (record { name = name; status = answer.status }) }

-- whether a command was passed over
abbrev pub passed_by : ℕ → ℕ
passed_by status = if status == 0 then 0 else 1

-- a command that was passed, as a run of its own
abbrev pub one : Reply → Run
one answer = record { bytes = answer.bytes; statics = answer.statics; passed = passed_by answer.status; stop = None }

-- one run after another
abbrev pub followed : Run → Run → Run
followed first later =
    record { bytes = first.bytes ++ later.bytes; statics = later.statics; passed = first.passed + later.passed; stop = later.stop }

-- what commands do, one after another, each with the variables of those before it: what each writes,
-- in order, up to the one at which they stop
pub data Runs (t : FullTarget) (until : Until) : (statics : List ℤ) → List Command → Run → Type 0 where
  no_command : {statics : List ℤ} → Runs t until statics [] (nothing statics)
  stops : {statics : List ℤ} {command : Command} {commands : List Command} {answer : Reply} → Answers t statics command answer →
      goes_on until answer.status ≡ false → Runs t until statics (command ∷ commands) (stopped answer (name_of command))
  then_others : {statics : List ℤ} {command : Command} {commands : List Command} {answer : Reply} {later : Run} → Answers t statics command answer →
      goes_on until answer.status ≡ true → Runs t until answer.statics commands later →
      Runs t until statics (command ∷ commands) (followed (one answer) later)

-- the commands that words are do this: all of them, unless they stop
pub record RunsWords (t : FullTarget) (until : Until) (statics : List ℤ) (words : List (List ℕ)) (run : Run) : Type 0 where
  pub commands : List Command
  pub rest : List (List ℕ)
  pub are : AreCommands t.full words commands rest
  pub runs : Runs t until statics commands run
  pub whole : run.stop ≡ None → rest ≡ []

-- ---- laws

-- The output of commands is that of the first ones, and then that of the others; the others are not
-- run if the first ones stop.
pub record OneAfterAnother (t : FullTarget) (until : Until) : Type 0 where
  pub goes_on : (statics : List ℤ) (first later : List Command) (a b : Run) → Runs t until statics first a → a.stop ≡ None →
      Runs t until a.statics later b → Runs t until statics (first ++ later) (followed a b)
  pub stops : (statics : List ℤ) (first later : List Command) (a : Run) (stop : Stop) → Runs t until statics first a → a.stop ≡ Some stop →
      Runs t until statics (first ++ later) a
