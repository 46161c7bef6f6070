use Rattle.std.proofs.Common.{◌≡◌, ◌++◌, drop, map}
use Rattle.source_kept_lines.specs.Layout.{lines_text}
use Rattle.source_kept_lines.specs.declared.parts.Reached.TheVariants.{Names}
use Rattle.source_kept_lines.proofs.repairing.push_lines.Given as goal

-- what is written so far, and of the lines that are left, is what is written of all
abbrev pub invariant-loop-line : goal.invariant-loop-line
invariant-loop-line l =
    l.out.items ++ lines_text l.form.width l.form.indent.now l.reached (map (λ line. line.now) (drop l.line-index l.lines))
    ≡ l.fn.out.items ++ lines_text l.form.width l.form.indent.now Names (map (λ line. line.now) l.lines)
