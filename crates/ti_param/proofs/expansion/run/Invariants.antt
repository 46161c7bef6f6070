use Rattle.std.proofs.Common.{◌≡◌, ◌≤◌, length}
use Rattle.std.specs.Prelude.{None}
use Rattle.ti_formats.specs.Left.{left_of}
use Rattle.ti_param.proofs.Running.{executed}
use Rattle.ti_param.proofs.expansion.run.Given as goal

-- the tokens that are left end as all do
abbrev pub invariant-loop-place : goal.invariant-loop-place
invariant-loop-place l = record {
  left : executed None (left_of l.lexer).tokens l.machine ≡ executed None (left_of l.fn.lexer).tokens l.fn.machine;
  stop : (left_of l.lexer).stop ≡ (left_of l.fn.lexer).stop;
  fewer : length (left_of l.lexer).tokens ≤ length (left_of l.fn.lexer).tokens;
}

abbrev pub decreases-loop-place : goal.decreases-loop-place
decreases-loop-place l = length (left_of l.lexer).tokens
