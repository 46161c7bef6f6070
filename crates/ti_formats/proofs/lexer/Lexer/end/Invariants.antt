use Rattle.std.proofs.Common.{◌≡◌, length}
use Rattle.ti_formats.specs.Left.{left_of}
use Rattle.ti_formats.proofs.lexer.Lexer.end.Given as goal

-- the tokens that are left end where all tokens do
abbrev pub invariant-loop : goal.invariant-loop
invariant-loop l = (left_of l.self).stop ≡ (left_of l.fn.self).stop

abbrev pub decreases-loop : goal.decreases-loop
decreases-loop l = length (left_of l.self).tokens
