-- How a run of `tput -S` ends whose lines were answered as far as could be.
use Rattle.std.proofs.Common.{◌≡◌, ℕ, List, [], ◌∷◌, ◌++◌, Ok, Err, refl, ap, ◌∙◌, subst, arith, inl, inr}
use Rattle.std.specs.Prelude.{⊤}
use Rattle.tools_devices.proofs.Written.{Gives-none, TakesAll-none}
use Rattle.tools_devices.specs.Answering.{AllAnswered, IsLongLine, IsOutOfMemory, IsReadFault, LinesEnd, LinesLead, StopsAtLine}
use Rattle.tools_devices.specs.Counted.{Observed}
use Rattle.tools_devices.specs.Lines.{with_last}
use Rattle.tools_devices.specs.Writing.{TakesAll, TakesFront}
use Rattle.tools_devices.specs.declared.tool_error.ToolError.{ToolError}
use Rattle.tools_devices.specs.declared.tool_error.ToolError.TheVariants.{Usage, NoTerminal, BadEntry, ReadFault, WriteFault}
use Rattle.tools_devices.specs.declared.tool_error.ToolError.TheVariants.{LineTooLong, BlockTooLong, TooManyBlocks, Memory}
use Rattle.ti_layout.specs.View.{Entry}
use Rattle.tools_tput.specs.Runs.{LineStep, RunState, TakesLines, lines_start, no_lines, run_status, then_lines}
use Rattle.tools_tput.specs.Streaming.{CommandsEnd, CommandsStopAtLine, command_line_max}
use Rattle.tools_tput.specs.inside.Terminal.{TerminalState, line_leads, state_at}

-- what lines lead to is what comes of them
taken : (entry : Entry) (rate : ℕ) (lines : List (List ℕ)) (state : RunState) (end : TerminalState) (output : List ℕ)
    → LinesLead line_leads lines (state_at entry rate state) end output
    → (step : LineStep) × TakesLines entry rate state lines step × (end.run ≡ step.after) × (output ≡ step.bytes)
taken entry rate [] state end output lead =
    (record { after = state; bytes = [] }, no_lines, ap (λ (s : TerminalState). s.run) lead.0, lead.1)
taken entry rate (line ∷ lines) state end output (next, reply, later, leads, lead, whole) =
    let first : LineStep = leads.0 in
    let rest = taken entry rate lines first.after end later (subst (λ (s : TerminalState). LinesLead line_leads lines s end later) leads.2 lead) in
    let step : LineStep = rest.0 in (
      record { after = step.after; bytes = first.bytes ++ step.bytes },
      then_lines leads.1 rest.1,
      rest.2,
      whole ∙ ap (λ (b : List ℕ). b ++ later) leads.3 ∙ ap (λ (b : List ℕ). first.bytes ++ b) rest.3,
    )

module _ (entry : Entry) (rate : ℕ) (given left before now : Observed) where
  -- the run stopped at a line
  stopped : (HasCause : List ℕ → List ℕ → Type 0) → StopsAtLine line_leads command_line_max (state_at entry rate lines_start) given left before now HasCause
      → CommandsStopAtLine entry rate given left before now HasCause
  stopped HasCause s =
      let t = taken entry rate s.lines lines_start s.end s.output s.lead in record {
        taken = s.taken;
        rest = s.rest;
        lines = s.lines;
        line = s.line;
        gives = s.gives;
        has_lines = s.has_lines;
        step = t.0;
        takes = t.1;
        written = subst (λ (b : List ℕ). TakesAll before now b) t.3 s.written;
        cause = s.cause;
      }

  -- memory ran out before the first read
  not_begun : CommandsStopAtLine entry rate given given before before (IsOutOfMemory ⊤ command_line_max given given)
  not_begun = record {
    taken = [];
    rest = [];
    lines = [];
    line = [];
    gives = (Gives-none given).bytes;
    has_lines = record { split = record { whole = refl; each = tt; partial = tt }; short = tt };
    step = record { after = lines_start; bytes = [] };
    takes = no_lines;
    written = TakesAll-none before;
    cause = (refl, omega arith, tt);
  }

  -- the lines could not be answered to the end
  pub CommandsEnd-stopped : (Holds : TerminalState → Type 0) (e : ToolError)
      → LinesEnd line_leads (Unit {0}) command_line_max (state_at entry rate lines_start) Holds given left before now (Err e)
      → CommandsEnd entry rate given left before now (Err e)
  CommandsEnd-stopped Holds Usage end = absurd end
  CommandsEnd-stopped Holds NoTerminal end = absurd end
  CommandsEnd-stopped Holds (BadEntry why) end = absurd end
  CommandsEnd-stopped Holds ReadFault s = stopped (IsReadFault command_line_max given left) s
  CommandsEnd-stopped Holds WriteFault s =
      let t = taken entry rate s.lines lines_start s.end s.output s.lead in record {
        taken = s.taken;
        rest = s.rest;
        lines = s.lines;
        gives = s.gives;
        are_begun = s.are_begun;
        step = t.0;
        takes = t.1;
        written = subst (λ (b : List ℕ). TakesFront before now b) t.3 s.written;
      }
  CommandsEnd-stopped Holds LineTooLong s = stopped (IsLongLine command_line_max given left) s
  CommandsEnd-stopped Holds (BlockTooLong n) end = absurd end
  CommandsEnd-stopped Holds TooManyBlocks end = absurd end
  CommandsEnd-stopped Holds Memory (inl (same, none)) = rw (same, none) not_begun
  CommandsEnd-stopped Holds Memory (inr s) = stopped (IsOutOfMemory ⊤ command_line_max given left) s

  -- all lines were answered
  pub CommandsEnd-complete : (Holds : TerminalState → Type 0)
      (a : AllAnswered line_leads command_line_max (state_at entry rate lines_start) Holds given left before now) (status : ℕ)
      → status ≡ run_status a.end.run.bad → CommandsEnd entry rate given left before now (Ok status)
  CommandsEnd-complete Holds a status is =
      let t = taken entry rate (with_last a.lines a.line) lines_start a.end a.output a.lead in record {
        input = a.input;
        lines = a.lines;
        line = a.line;
        gives = a.gives;
        at_end = a.at_end;
        has_lines = a.has_lines;
        short = a.short;
        step = t.0;
        takes = t.1;
        written = subst (λ (b : List ℕ). TakesAll before now b) t.3 a.written;
        ends_with = is ∙ ap (λ (s : RunState). run_status s.bad) t.2;
      }
