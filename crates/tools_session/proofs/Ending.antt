-- How a session ends whose lines were answered as far as could be.
use Rattle.std.proofs.Common.{ℕ, List, [], ◌∷◌, ◌++◌, Result, Ok, Err, refl, sym, ap, ◌∙◌, subst, append-nil, inl, inr}
use Rattle.std.specs.Io.KnownBytes.{Consumes}
use Rattle.std.specs.List.{AllByRecursion}
use Rattle.tools_devices.proofs.LineSteps.{AllByRecursion-push}
use Rattle.tools_devices.proofs.Written.{TakesAll-then, TakesFront-more, TakesFront-then}
use Rattle.tools_devices.specs.Answering.{AllAnswered, AreBegun, LinesEnd}
use Rattle.tools_devices.specs.Counted.{Observed}
use Rattle.tools_devices.specs.Lines.{HasLines, with_last}
use Rattle.tools_devices.specs.Reading.{Gives}
use Rattle.tools_devices.specs.Writing.{TakesFront, Wrote}
use Rattle.tools_devices.specs.declared.tool_error.ToolError.{ToolError}
use Rattle.tools_devices.specs.declared.tool_error.ToolError.TheVariants.{Usage, NoTerminal, BadEntry, ReadFault, WriteFault}
use Rattle.tools_devices.specs.declared.tool_error.ToolError.TheVariants.{LineTooLong, BlockTooLong, TooManyBlocks, Memory}
use Rattle.tools_session.specs.Script.{Complete, IsShortScriptLine, Runs, SessionState, closing_reply, line_leads, script_line_max, session_start}
use Rattle.tools_session.specs.Streaming.{ScriptEnds, ScriptStopsWriting}

-- all lines are within the limit, the last one too
all-short : (lines : List (List ℕ)) (line : List ℕ) → AllByRecursion IsShortScriptLine lines → IsShortScriptLine line
    → AllByRecursion IsShortScriptLine (with_last lines line)
all-short lines [] all one = all
all-short lines (byte ∷ line) all one = AllByRecursion-push IsShortScriptLine lines (byte ∷ line) all one

complete : (input : List ℕ) (lines : List (List ℕ)) (line : List ℕ) (end : SessionState) (replies : List ℕ) → HasLines script_line_max input lines line
    → IsShortScriptLine line → Runs (with_last lines line) session_start end replies → Complete input end replies
complete input lines line end replies has short ran =
    record { lines = lines; rest = line; split = has.split; short = all-short lines line has.short short; ran = ran }

module _ (given left before now : Observed) where
  -- a reply was cut: of the lines that are complete, or, at the end of the input, of all
  cut : (taken rest output : List ℕ) (lines : List (List ℕ)) (end : SessionState) → Gives given left (taken ++ rest) → TakesFront before now output
      → Runs lines session_start end output → AreBegun script_line_max taken rest left lines → ScriptStopsWriting given left before now
  cut taken rest output lines end gives written ran (inl begun) = record {
    taken = taken;
    rest = rest;
    output = output;
    gives = gives;
    is_output = inl (begun.0, end, record { lines = lines; split = begun.1.split; short = begun.1.short; ran = ran });
    written = written;
  }
  cut taken rest output lines end gives written ran (inr (all, line, has, short, none, at_end, is)) = record {
    taken = taken;
    rest = rest;
    output = output ++ closing_reply end.mode;
    gives = gives;
    is_output = inr (
      none,
      at_end,
      record {
        end = end;
        replies = output;
        complete = complete taken all line end output has short
            (subst (λ (ls : List (List ℕ)). Runs ls session_start end output) is ran);
        whole = refl;
      },
    );
    written = TakesFront-more before now output (closing_reply end.mode) written;
  }

  -- the lines could not be answered to the end
  pub ScriptEnds-stopped : (Holds : SessionState → Type 0) (e : ToolError)
      → LinesEnd line_leads ⊥ script_line_max session_start Holds given left before now (Err e) → ScriptEnds given left before now (Err e)
  ScriptEnds-stopped Holds Usage end = absurd end
  ScriptEnds-stopped Holds NoTerminal end = absurd end
  ScriptEnds-stopped Holds (BadEntry why) end = absurd end
  ScriptEnds-stopped Holds ReadFault s = record {
    taken = s.taken;
    line = s.line;
    end = s.end;
    output = s.output;
    gives = subst (λ (t : List ℕ). Consumes given.bytes left.bytes t) (ap (λ (t : List ℕ). s.taken ++ t) s.cause.0 ∙ append-nil s.taken) s.gives;
    so_far = record { lines = s.lines; split = s.has_lines.split; short = s.has_lines.short; ran = s.lead };
    short = s.cause.1;
    written = s.written;
    cause = s.cause.2;
  }
  ScriptEnds-stopped Holds WriteFault s = cut s.taken s.rest s.output s.lines s.end s.gives s.written s.lead s.are_begun
  ScriptEnds-stopped Holds LineTooLong s = record {
    taken = s.taken;
    rest = s.rest;
    line = s.line;
    end = s.end;
    output = s.output;
    gives = record { bytes = s.gives; failures = s.cause.0 };
    so_far = record { lines = s.lines; split = s.has_lines.split; short = s.has_lines.short; ran = s.lead };
    long = s.cause.1;
    written = s.written;
  }
  ScriptEnds-stopped Holds (BlockTooLong n) end = absurd end
  ScriptEnds-stopped Holds TooManyBlocks end = absurd end
  ScriptEnds-stopped Holds Memory (inl same) = same
  ScriptEnds-stopped Holds Memory (inr s) = absurd s.cause.2

-- all lines were answered, and then what closes the session
module _ (given left before middle now : Observed) (Holds : SessionState → Type 0)
    (a : AllAnswered line_leads script_line_max session_start Holds given left before middle) where
  pub ScriptEnds-closed : (result : Result Unit ToolError) → Wrote middle now (closing_reply a.end.mode) result → ScriptEnds given left before now result
  ScriptEnds-closed (Ok x) wrote = record {
    input = a.input;
    output = a.output ++ closing_reply a.end.mode;
    gives = a.gives;
    at_end = a.at_end;
    session = record { end = a.end; replies = a.output; complete = complete a.input a.lines a.line a.end a.output a.has_lines a.short a.lead; whole = refl };
    written = TakesAll-then before middle now a.output (closing_reply a.end.mode) a.written wrote;
  }
  ScriptEnds-closed (Err e) wrote =
      subst (λ (x : ToolError). ScriptEnds given left before now (Err x)) (sym wrote.0) (record {
        taken = a.input;
        rest = [];
        output = a.output ++ closing_reply a.end.mode;
        gives = subst (λ (t : List ℕ). Gives given left t) (sym (append-nil a.input)) a.gives;
        is_output = inr (
          refl,
          a.at_end,
          record {
            end = a.end;
            replies = a.output;
            complete = complete a.input a.lines a.line a.end a.output a.has_lines a.short a.lead;
            whole = refl;
          },
        );
        written = TakesFront-then before middle now a.output (closing_reply a.end.mode) a.written wrote.1;
      })
