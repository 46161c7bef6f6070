use Rattle.std.proofs.Common.{◌≡◌, flat_map, take}
use Rattle.everyday_lint.specs.Report.{severities_of}
use Rattle.everyday_lint.proofs.report.severities_of_files.Given as goal

-- those of the files so far
abbrev pub invariant-loop-file : goal.invariant-loop-file
invariant-loop-file l = l.severities.items ≡ flat_map severities_of (take l.file-index l.done)
