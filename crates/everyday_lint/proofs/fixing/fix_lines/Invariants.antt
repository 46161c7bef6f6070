use Rattle.std.proofs.Common.{◌≡◌, map, take}
use Rattle.everyday_lint.specs.Fixing as spec
use Rattle.everyday_lint.specs.Offers.{made_seen}
use Rattle.everyday_lint.proofs.fixing.fix_lines.Given as goal

-- those so far are told
abbrev pub invariant-loop-offer : goal.invariant-loop-offer
invariant-loop-offer l = l.lines.items ≡ spec.fix_lines l.file l.text (map made_seen (take l.offer-index l.offers))
