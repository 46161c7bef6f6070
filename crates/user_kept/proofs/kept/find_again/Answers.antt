use Rattle.std.proofs.Common.{◌≡◌, ◌∙◌, ◌+◌, ◌<◌, ◌∷◌, List, ℕ, drop, get_or, length, subst, arith}
use Rattle.std.proofs.lemmas.List.{drop_more, length-set}
use Rattle.user_kept.specs.inside.Kept.{AreRightOff}
use Rattle.user_kept.proofs.Keeping.{one_more_right}
use Rattle.user_kept.proofs.kept.find_again.Goals as goal

pub loop-at-preserved : goal.loop-at-preserved
loop-at-preserved c =
    let db = c.args.database.now in
    let places = c.args.places.now in
    let k = c.loop-at.at-index in
    let place = get_or places k 0 in
    let findings = c.loop-at.findings.items in
    let i = c.loop-at.invariant in
    let n = i.as_many in
    let l : place < length db = c.requires.within k 0 c.loop-at-test.true in
    let more : drop k places ≡ place ∷ drop (k + 1) places = drop_more places k 0 c.loop-at-test.true in
    record {
      as_many = length-set findings place c.in-Some.finding ∙ i.as_many;
      right = one_more_right db place (drop (k + 1) places) findings c.in-Some.finding (omega (arith, l, n))
          (subst (λ (ps : List ℕ). AreRightOff db ps findings) more i.right) (c.in_ok-finding.ensures c.in-Some.finding c.in-Some.is);
    }
