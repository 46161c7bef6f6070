use Rattle.std.proofs.Common.{◌≡◌, drop}
use Rattle.source_kept_lines.specs.Parts.{after}
use Rattle.source_kept_lines.proofs.lines.after.Given as goal

-- what is reached by the rest is what is reached by the text
abbrev pub invariant-loop-byte : goal.invariant-loop-byte
invariant-loop-byte l = after l.so_far (drop l.byte-index l.text) ≡ after l.fn.reached l.text
