use Rattle.std.proofs.Common.{◌≡◌, ◌++◌, replicate}
use Rattle.everyday_forms.proofs.excerpts.push_many.Given as goal

-- those so far
abbrev pub invariant-loop-at : goal.invariant-loop-at
invariant-loop-at l = l.out.items ≡ l.fn.out.items ++ replicate l._at l.byte
