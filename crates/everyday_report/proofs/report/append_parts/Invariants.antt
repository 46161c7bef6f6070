use Rattle.std.proofs.Common.{◌≡◌, ◌++◌, drop, map}
use Rattle.std.specs.List.{concat}
use Rattle.everyday_report.proofs.report.append_parts.Given as goal

-- what was appended, and the parts that are left
abbrev pub invariant-loop-part : goal.invariant-loop-part
invariant-loop-part l =
    l.out.items ++ concat (map (λ part. part.now) (drop l.part-index l.parts)) ≡ l.initial.out.items ++ concat (map (λ part. part.now) l.parts)
