use Rattle.std.proofs.Common.{◌≡◌, ◌++◌, length}
use Rattle.source_kept_lines.specs.Layout.{filled}
use Rattle.source_kept_lines.specs.Parts.{after, parts}
use Rattle.source_kept_lines.proofs.writing.push_parts.Given as goal

-- what is written so far, and of the parts that are left, is what is written of all; so is what is reached
abbrev pub invariant-loop-part : goal.invariant-loop-part
invariant-loop-part l = record {
  written : l.out.items ++ filled l.lines.width l.lines.indent.now l.taken (parts l.so_far l.rest)
      ≡ l.fn.out.items ++ filled l.lines.width l.lines.indent.now l.fn.column (parts l.fn.reached l.fn.text);
  reached : after l.so_far l.rest ≡ after l.fn.reached l.fn.text;
}

abbrev pub decreases-loop-part : goal.decreases-loop-part
decreases-loop-part l = length l.rest
