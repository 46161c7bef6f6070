use Rattle.std.proofs.Common.{◌≡◌, length}
use Rattle.ti_formats.specs.Left.{left_of}
use Rattle.source_block_hints.specs.Formats.{names_parameter, reading_of}
use Rattle.source_block_hints.proofs.formats.names_parameter.Given as goal

-- what holds of the tokens that are left holds of all
abbrev pub invariant-loop-token : goal.invariant-loop-token
invariant-loop-token l = names_parameter l.number (left_of l.lexer).tokens ≡ names_parameter l.number (reading_of l.format).tokens

abbrev pub decreases-loop-token : goal.decreases-loop-token
decreases-loop-token l = length (left_of l.lexer).tokens
