use Rattle.std.proofs.Common.{◌≡◌, ◌++◌, map, take}
use Rattle.everyday_forms.specs.Excerpts.{below_byte}
use Rattle.everyday_forms.proofs.excerpts.push_below.Given as goal

-- the bytes so far are added
abbrev pub invariant-loop-byte : goal.invariant-loop-byte
invariant-loop-byte l = l.out.items ≡ l.fn.out.items ++ map below_byte (take l.byte-index l.text)
