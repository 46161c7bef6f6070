use Rattle.std.proofs.Common.{◌≡◌, ◌≤◌, count_by, take}
use Rattle.everyday_lint.specs.Report.{is_checked}
use Rattle.everyday_lint.proofs.report.count_of.Given as goal

-- those so far are counted
abbrev pub invariant-loop-file : goal.invariant-loop-file
invariant-loop-file l = record {
  counted : l.count ≡ count_by is_checked (take l.file-index l.done);
  few : l.count ≤ l.file-index;
}
