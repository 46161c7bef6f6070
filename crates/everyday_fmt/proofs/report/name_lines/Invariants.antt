use Rattle.std.proofs.Common.{◌≡◌, ◌++◌, drop}
use Rattle.std.specs.List.{flat_map}
use Rattle.everyday_fmt.specs.Report.{name_line}
use Rattle.everyday_fmt.proofs.report.name_lines.Given as goal

-- what was written, and the names that are left
abbrev pub invariant-loop-file : goal.invariant-loop-file
invariant-loop-file l = l.text.items ++ flat_map (name_line l.check) (drop l.file-index l.done) ≡ flat_map (name_line l.check) l.done
