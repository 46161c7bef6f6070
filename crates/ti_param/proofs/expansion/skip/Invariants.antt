use Rattle.std.proofs.Common.{◌≡◌, ◌+◌, ◌<◌, ◌^◌, ◌≤◌, length}
use Rattle.ti_formats.specs.Left.{left_of}
use Rattle.ti_param.specs.inside.Skipping.{after_part}
use Rattle.ti_param.proofs.expansion.skip.Given as goal

-- what is skipped of the tokens that are left is what is skipped of all tokens
abbrev pub invariant-loop-token : goal.invariant-loop-token
invariant-loop-token l = record {
  left : after_part l.level l.to_else (left_of l.lexer).tokens ≡ after_part 0 l.to_else (left_of l.fn.lexer).tokens;
  stop : (left_of l.lexer).stop ≡ (left_of l.fn.lexer).stop;
  fewer : length (left_of l.lexer).tokens ≤ length (left_of l.fn.lexer).tokens;
  room : l.level + length (left_of l.lexer).tokens < 2 ^ 64;
}

abbrev pub decreases-loop-token : goal.decreases-loop-token
decreases-loop-token l = length (left_of l.lexer).tokens
