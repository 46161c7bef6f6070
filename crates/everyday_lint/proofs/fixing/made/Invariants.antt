use Rattle.std.proofs.Common.{◌≡◌, ◌++◌, drop, map}
use Rattle.everyday_lint.specs.Fixing.{made}
use Rattle.everyday_lint.specs.Offers.{made_seen, offer_seen}
use Rattle.everyday_lint.proofs.fixing.made.Given as goal

-- those that are made so far, and those of the others that are made, are all
abbrev pub invariant-loop-offer : goal.invariant-loop-offer
invariant-loop-offer l =
    map made_seen l.all.items ++ made l.text l.at (map offer_seen (drop l.offer-index l.offers)) ≡ made l.text 0 (map offer_seen l.offers)
