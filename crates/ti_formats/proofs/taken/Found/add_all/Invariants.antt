use Rattle.std.proofs.Common.{◌≡◌, ◌+◌, ◌^◌, ◌<◌, ◌≤◌, ℕ, length}
use Rattle.ti_text.specs.Limits.{parameters_max}
use Rattle.ti_formats.specs.Left.{left_of}
use Rattle.ti_formats.specs.inside.Parameters.{named_with, string_with, popped_with}
use Rattle.ti_formats.proofs.taken.Found.add_all.Given as goal

-- what is found with the tokens that are left is what is found in all
abbrev pub invariant-loop-token : goal.invariant-loop-token
invariant-loop-token l = record {
  named : named_with l.self (left_of l.lexer).tokens ≡ named_with l.fn.self (left_of l.fn.lexer).tokens;
  strings : (i : ℕ) → i < parameters_max → string_with l.self i (left_of l.lexer).tokens ≡ string_with l.fn.self i (left_of l.fn.lexer).tokens;
  popped : popped_with l.self (left_of l.lexer).tokens ≡ popped_with l.fn.self (left_of l.fn.lexer).tokens;
  stop : (left_of l.lexer).stop ≡ (left_of l.fn.lexer).stop;
  height : l.self.height + length (left_of l.lexer).tokens < 2 ^ 64;
  last : l.self.last ≤ parameters_max;
  few : l.self.popped ≤ parameters_max;
}

abbrev pub decreases-loop-token : goal.decreases-loop-token
decreases-loop-token l = length (left_of l.lexer).tokens
