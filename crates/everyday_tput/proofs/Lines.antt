-- How a run of lines ends.
use Rattle.std.proofs.Common.{Err}
use Rattle.std.specs.Prelude.{⊤}
use Rattle.tools_devices.specs.Answering.{AllAnswered, LinesEnd}
use Rattle.tools_devices.specs.Counted.{Observed}
use Rattle.tools_devices.specs.declared.tool_error.ToolError.{ToolError}
use Rattle.tools_devices.specs.declared.tool_error.ToolError.TheVariants.{Usage, NoTerminal, BadEntry, ReadFault, WriteFault, LineTooLong, BlockTooLong}
use Rattle.tools_devices.specs.declared.tool_error.ToolError.TheVariants.{TooManyBlocks, Memory}
use Rattle.everyday_tput.specs.Answers.{FullTarget}
use Rattle.everyday_tput.specs.Runs.{IsLinesEnding, RunState, TerminalState, line_leads}
use Rattle.everyday_tput.specs.inside.Terminal.{HasRunState, IsInState}
use Rattle.everyday_tput.specs.declared.streaming.LinesEnding.{LinesEnding}
use Rattle.everyday_tput.specs.declared.terminal.Terminal.{Terminal}

pub all_complete : (start : TerminalState) (t : Terminal) (given left before now : Observed) (ending : LinesEnding)
    → AllAnswered line_leads 4096 start (IsInState t) given left before now
    → ((target : FullTarget) (run : RunState) → HasRunState target t run → IsLinesEnding ending run)
    → AllAnswered line_leads 4096 start (λ (end : TerminalState). IsLinesEnding ending end.run) given left before now
all_complete start t given left before now ending a is = record {
  input = a.input;
  lines = a.lines;
  line = a.line;
  end = a.end;
  output = a.output;
  gives = a.gives;
  at_end = a.at_end;
  has_lines = a.has_lines;
  short = a.short;
  lead = a.lead;
  holds = is a.end.target a.end.run a.holds;
  written = a.written;
}

pub all_stopped : (start : TerminalState) (H : TerminalState → Type 0) (given left before now : Observed) (error : ToolError)
    → LinesEnd line_leads ⊤ 4096 start H given left before now (Err error) → LinesEnd line_leads ⊤ 4096 start (λ _. ⊤) given left before now (Err error)
all_stopped start H given left before now ReadFault is = is
all_stopped start H given left before now WriteFault is = is
all_stopped start H given left before now LineTooLong is = is
all_stopped start H given left before now Memory is = is
all_stopped start H given left before now Usage is = is
all_stopped start H given left before now NoTerminal is = is
all_stopped start H given left before now (BadEntry why) is = is
all_stopped start H given left before now (BlockTooLong n) is = is
all_stopped start H given left before now TooManyBlocks is = is
