use Rattle.std.proofs.Common.{◌≡◌, ◌++◌}
use Rattle.everyday_initializers.specs.Initializers.{lines}
use Rattle.everyday_initializers.specs.inside.Lines.{described_seen, line_of}
use Rattle.everyday_initializers.proofs.lines.push_lines.Given as goal

-- what was written, and what is to be written of the rest
abbrev pub invariant-loop-index : goal.invariant-loop-index
invariant-loop-index l =
    let line = line_of (described_seen l.d) l.line in
    l.out.items ++ lines line l.index l.end ≡ l.initial.out.items ++ lines line l.begin l.end
