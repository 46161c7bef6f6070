use Rattle.std.proofs.Common.{◌≡◌, length}
use Rattle.ti_formats.specs.Left.{left_of}
use Rattle.source_block_hints.specs.Formats.{foreign_in, reading_of}
use Rattle.source_block_hints.proofs.formats.foreign_in.Given as goal

-- what holds of the tokens that are left holds of all
abbrev pub invariant-loop-place : goal.invariant-loop-place
invariant-loop-place l = foreign_in l.count (left_of l.lexer).tokens ≡ foreign_in l.count (reading_of l.format).tokens

abbrev pub decreases-loop-place : goal.decreases-loop-place
decreases-loop-place l = length (left_of l.lexer).tokens
