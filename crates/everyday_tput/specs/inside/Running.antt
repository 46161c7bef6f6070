-- What the code knows of commands that it ran (own).
use Rattle.std.specs.Prelude.{◌≡◌, ℕ, ◌+◌, List, ◌++◌, ℤ, min, option_map}
use Rattle.everyday_tput.specs.Answers.{FullTarget}
use Rattle.everyday_tput.specs.Calls.{stop_of}
use Rattle.everyday_tput.specs.Running.{Run, RunsWords}
use Rattle.everyday_tput.specs.declared.running.Outcome.{Outcome}
use Rattle.everyday_tput.specs.declared.running.Until.{Until}

-- a run after commands that wrote these bytes, of which so many were passed over
abbrev pub after_those : List ℕ → ℕ → Run → Run
after_those bytes count later = record { bytes = bytes ++ later.bytes; statics = later.statics; passed = count + later.passed; stop = later.stop }

-- the first words were run, with these bytes and variables; whatever the rest does, all do that after
-- these
pub record Progress (t : FullTarget) (until : Until) (before : List ℤ) (words : List (List ℕ)) (bytes : List ℕ) (passed : ℕ) (statics : List ℤ)
    (rest : List (List ℕ)) : Type 0 where
  pub count : ℕ
  pub counted : passed ≡ min 255 count
  pub leads : (later : Run) → RunsWords t until statics rest later → RunsWords t until before words (after_those bytes count later)

-- the words were run, with these variables after them; no more than 255 are counted
pub record Ran (t : FullTarget) (until : Until) (before : List ℤ) (words : List (List ℕ)) (after : List ℤ) (outcome : Outcome) : Type 0 where
  pub run : Run
  pub runs : RunsWords t until before words run
  pub bytes : run.bytes ≡ outcome.bytes.items
  pub statics : run.statics ≡ after
  pub passed : outcome.passed ≡ min 255 run.passed
  pub stop : run.stop ≡ option_map stop_of outcome.stop
