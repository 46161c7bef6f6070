use Rattle.std.proofs.Common.{◌≡◌, ◌≤◌, count_by, take}
use Rattle.everyday_forms.specs.Counts.{is_hint}
use Rattle.everyday_forms.proofs.counts.hints_in.Given as goal

-- those so far are counted
abbrev pub invariant-loop-severity : goal.invariant-loop-severity
invariant-loop-severity l = record {
  counted : l.count ≡ count_by is_hint (take l.severity-index l.severities);
  few : l.count ≤ l.severity-index;
}
