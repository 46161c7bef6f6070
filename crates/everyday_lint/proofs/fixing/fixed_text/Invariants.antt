use Rattle.std.proofs.Common.{◌≡◌, ◌≤◌, ◌++◌, drop, length, map}
use Rattle.everyday_lint.specs.Fixing as spec
use Rattle.everyday_lint.specs.Offers.{made_seen}
use Rattle.everyday_lint.proofs.fixing.fixed_text.Given as goal

-- the text so far, and the rest with the others made, are all
abbrev pub invariant-loop-offer : goal.invariant-loop-offer
invariant-loop-offer l = record {
  text : l.all.items ++ spec.fixed_text l.text l.at (map made_seen (drop l.offer-index l.offers)) ≡ spec.fixed_text l.text 0 (map made_seen l.offers);
  within : l.at ≤ length l.text;
}
