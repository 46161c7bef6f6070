use Rattle.std.proofs.Common.{◌≡◌, drop, map}
use Rattle.source_kept_lines.specs.Layout.{indent_from}
use Rattle.source_kept_lines.specs.declared.parts.Reached.TheVariants.{Names}
use Rattle.source_kept_lines.proofs.lines.indent_of.Given as goal

-- the indent of the lines that are left is that of all
abbrev pub invariant-loop-line : goal.invariant-loop-line
invariant-loop-line l = indent_from l.reached (map (λ line. line.now) (drop l.line-index l.lines)) ≡ indent_from Names (map (λ line. line.now) l.lines)
