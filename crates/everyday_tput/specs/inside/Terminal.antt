-- A terminal that takes commands line by line: what it holds (own).
use Rattle.std.specs.Prelude.{◌≡◌, List, ℕ, min, option_map}
use Rattle.everyday_tput.specs.Answers.{FullTarget, target_of}
use Rattle.everyday_tput.specs.Runs.{RunState, TakesLine, TerminalState}
use Rattle.everyday_tput.specs.inside.Strings.{IsLineOf}
use Rattle.everyday_tput.specs.declared.terminal.Terminal.{Terminal}

-- the terminal is that of the target, and has what is between two lines; it counts no more than 255
-- commands
pub record HasRunState (t : FullTarget) (terminal : Terminal) (state : RunState) : Type 0 where
  pub of_target : target_of terminal.target ≡ t
  pub of_line : IsLineOf terminal.target terminal.line
  pub statics : terminal.statics ≡ state.statics
  pub absent : terminal.absent ≡ min 255 state.absent
  pub ended : option_map (λ name. name.items) terminal.ended ≡ state.ended

-- the terminal is in that state
abbrev pub IsInState : Terminal → TerminalState → Type 0
IsInState terminal state = HasRunState state.target terminal state.run

-- a line leads to what the terminal has now, and these are the bytes that it writes
abbrev pub LeadsTo : FullTarget → RunState → List ℕ → Terminal → List ℕ → Type 0
LeadsTo t state line terminal bytes = (after : RunState) × TakesLine t state line after bytes × HasRunState t terminal after
