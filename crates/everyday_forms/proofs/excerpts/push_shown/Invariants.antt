use Rattle.std.proofs.Common.{◌≡◌, ◌++◌, map, take}
use Rattle.everyday_forms.specs.Excerpts.{shown_byte}
use Rattle.everyday_forms.proofs.excerpts.push_shown.Given as goal

-- the bytes so far are added
abbrev pub invariant-loop-byte : goal.invariant-loop-byte
invariant-loop-byte l = l.out.items ≡ l.fn.out.items ++ map shown_byte (take l.byte-index l.text)
