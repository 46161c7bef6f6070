-- A terminal that takes commands line by line: what it holds, and what a line leads to (own).
use Rattle.std.specs.Prelude.{◌≡◌, ℕ, List, min}
use Rattle.ti_layout.specs.View.{Entry, entry_seen}
use Rattle.tools_tput.specs.Entries.{line_at_rate}
use Rattle.tools_tput.specs.Runs.{LineStep, RunState, TakesLine}
use Rattle.tools_tput.specs.declared.terminal.Terminal.{Terminal}

-- the terminal is that of the entry at the rate, and has what is between two lines; it counts no
-- more than 255 bad lines
pub record HasRunState (entry : Entry) (rate : ℕ) (terminal : Terminal) (state : RunState) : Type 0 where
  pub of_entry : entry_seen terminal.view ≡ entry
  pub of_rate : terminal.line ≡ line_at_rate entry rate
  pub statics : terminal.statics ≡ state.statics
  pub bad : terminal.bad ≡ min 255 state.bad

-- what is between two lines of a run of that entry at that rate
pub record TerminalState : Type 0 where
  pub entry : Entry
  pub rate : ℕ
  pub run : RunState

abbrev pub state_at : Entry → ℕ → RunState → TerminalState
state_at entry rate run = record { entry = entry; rate = rate; run = run }

-- the terminal is in that state
abbrev pub IsInState : Terminal → TerminalState → Type 0
IsInState terminal state = HasRunState state.entry state.rate terminal state.run

-- a line leads from one state to another, with what it writes
abbrev pub line_leads : TerminalState → List ℕ → TerminalState → List ℕ → Type 0
line_leads before line after bytes =
    (step : LineStep) × TakesLine before.entry before.rate before.run line step × (after ≡ state_at before.entry before.rate step.after)
    × (bytes ≡ step.bytes)
