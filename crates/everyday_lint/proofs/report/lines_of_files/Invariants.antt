use Rattle.std.proofs.Common.{◌≡◌, flat_map, take}
use Rattle.everyday_lint.specs.Report.{lines_of}
use Rattle.everyday_lint.proofs.report.lines_of_files.Given as goal

-- those of the files so far
abbrev pub invariant-loop-file : goal.invariant-loop-file
invariant-loop-file l = l.lines.items ≡ flat_map lines_of (take l.file-index l.done)
