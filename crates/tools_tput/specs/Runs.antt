-- What `tput -S` prints for the lines of its input (tput(1); the count of bad lines and the status
-- are own).
use Rattle.std.specs.Prelude.{◌≡◌, ℕ, zero, suc, ◌+◌, ◌==◌, nat_lt, min, Bool, if◌then◌else◌, Option, Some, None, ℤ}
use Rattle.std.specs.Prelude.{List, [], ◌∷◌, ◌++◌, length, filter}
use Rattle.std.specs.List.{slice_split}
use Rattle.ti_text.specs.WhiteSpace.{is_white_space}
use Rattle.ti_layout.specs.View.{Entry}
use Rattle.ti_param.specs.Meaning.{no_variables}
use Rattle.tools_tput.specs.Results.{Reply, Answers, bad_status}

-- ---- words

-- a word has a byte
abbrev pub has_bytes : List ℕ → Bool
has_bytes word = nat_lt 0 (length word)

-- the words of a line, separated by white space
unfoldable pub words_of : List ℕ → List (List ℕ)
words_of line = filter has_bytes (slice_split is_white_space line)

-- ---- lines

-- what is between two lines: how many were bad, and the static variables
pub record RunState : Type 0 where
  pub bad : ℕ
  pub statics : List ℤ

-- what comes of a line: what is after it, and what it writes
pub record LineStep : Type 0 where
  pub after : RunState
  pub bytes : List ℕ

-- a bad line writes nothing, and leaves the variables as they were
abbrev pub bad_step : RunState → LineStep
bad_step state = record { after = record { bad = suc state.bad; statics = state.statics }; bytes = [] }

-- a line is bad if it would end with status 2 or 4
abbrev pub reply_step : RunState → Option Reply → LineStep
reply_step state None = bad_step state
reply_step state (Some reply) =
    if reply.status == bad_status then bad_step state
    else record { after = record { bad = state.bad; statics = reply.statics }; bytes = reply.bytes }

-- what comes of the words of a line: nothing if there is none
pub data TakesWords (entry : Entry) (rate : ℕ) (state : RunState) : List (List ℕ) → LineStep → Type 0 where
  no_words : TakesWords entry rate state [] (record { after = state; bytes = [] })
  of_command : {word : List ℕ} {words : List (List ℕ)} {answer : Option Reply} → Answers entry rate state.statics (word ∷ words) answer →
      TakesWords entry rate state (word ∷ words) (reply_step state answer)

-- what comes of a line
abbrev pub TakesLine : Entry → ℕ → RunState → List ℕ → LineStep → Type 0
TakesLine entry rate state line step = TakesWords entry rate state (words_of line) step

-- what comes of lines, one after another
pub data TakesLines (entry : Entry) (rate : ℕ) : RunState → List (List ℕ) → LineStep → Type 0 where
  no_lines : {state : RunState} → TakesLines entry rate state [] (record { after = state; bytes = [] })
  then_lines : {state : RunState} {line : List ℕ} {lines : List (List ℕ)} {first later : LineStep} → TakesLine entry rate state line first →
      TakesLines entry rate first.after lines later →
      TakesLines entry rate state (line ∷ lines) (record { after = later.after; bytes = first.bytes ++ later.bytes })

-- at the start no line was bad, and each static variable is 0
abbrev pub lines_start : RunState
lines_start = record { bad = 0; statics = no_variables }

-- 0 if no line was bad, else 4 and the count of bad lines, at most 255
abbrev pub run_status : ℕ → ℕ
run_status zero = 0
run_status (suc bad) = min 255 (bad_status + suc bad)

-- ---- laws

-- a command that would end with status 4 writes nothing, and leaves the variables as they were
abbrev pub BadCommandsChangeNothing : Type 0
BadCommandsChangeNothing = (entry : Entry) (words : List (List ℕ)) (rate : ℕ) (statics : List ℤ) (reply : Reply)
    → Answers entry rate statics words (Some reply) → reply.status ≡ bad_status → (reply.bytes ≡ []) × (reply.statics ≡ statics)
