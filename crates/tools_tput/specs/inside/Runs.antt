-- What `tput -S` prints for a line, computed (own).
use Rattle.std.specs.Prelude.{ℕ, List, [], ◌∷◌}
use Rattle.ti_layout.specs.View.{Entry}
use Rattle.tools_tput.specs.Runs.{RunState, LineStep, reply_step, words_of}
use Rattle.tools_tput.specs.inside.Results.{tput_result}

-- how many words of a line are looked at: a command has at most a name and nine parameters, and one
-- more word is too many
abbrev pub words_seen : ℕ
words_seen = 11

-- a line without words does nothing
abbrev pub command_step : Entry → ℕ → RunState → List (List ℕ) → LineStep
command_step entry rate state [] = record { after = state; bytes = [] }
command_step entry rate state (word ∷ words) = reply_step state (tput_result entry (word ∷ words) rate state.statics)

-- what comes of a line
abbrev pub line_step : Entry → ℕ → RunState → List ℕ → LineStep
line_step entry rate state line = command_step entry rate state (words_of line)
