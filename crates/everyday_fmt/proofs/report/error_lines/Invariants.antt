use Rattle.std.proofs.Common.{◌≡◌, ◌++◌, drop}
use Rattle.std.specs.List.{flat_map}
use Rattle.everyday_fmt.specs.Report.{error_line}
use Rattle.everyday_fmt.proofs.report.error_lines.Given as goal

-- what was written, and the lines that are left
abbrev pub invariant-loop-file : goal.invariant-loop-file
invariant-loop-file l = l.text.items ++ flat_map error_line (drop l.file-index l.done) ≡ flat_map error_line l.done
