use Rattle.std.proofs.Common.{◌≡◌, List, arith, length, subst, sym}
use Rattle.base_meaning.specs.Edits.{removal}
use Rattle.user_compiling.specs.declared.finding.Finding.{Finding}
use Rattle.user_kept.specs.inside.Kept.{AreRightOff}
use Rattle.user_kept.proofs.Keeping.{as_many_removed, names_removed, place_removed, right_removed, within_kept}
use Rattle.user_kept.proofs.kept.Kept.after_removal.Goals as goal

pub remove-requires : goal.remove-requires
remove-requires c =
    let l = place_removed c.args.database.now c.args.at c.args.rebuilt.now c.args.self c.requires in
    omega (arith, l, c.args.self.findings.ok.0)

pub found_again-requires-clause-as_many : goal.found_again-requires-clause-as_many
found_again-requires-clause-as_many c =
    subst (λ (fs : List Finding). length fs ≡ length c.args.database.now) (sym c.remove.ensures.items)
    (as_many_removed c.args.database.now c.args.at c.args.rebuilt.now c.args.self c.requires)

pub found_again-requires-clause-within : goal.found_again-requires-clause-within
found_again-requires-clause-within c = within_kept c.args.database.now (λ _. removal c.args.at) c.args.rebuilt.now c.args.self c.requires

pub found_again-requires-clause-right : goal.found_again-requires-clause-right
found_again-requires-clause-right c =
    subst (λ (fs : List Finding). AreRightOff c.args.database.now c.args.rebuilt.now fs) (sym c.remove.ensures.items)
    (right_removed c.args.database.now c.args.at c.args.rebuilt.now c.args.self c.requires c.untouched_blocks_say_the_same.ensures c.remove.result)

pub found_again-requires-clause-names : goal.found_again-requires-clause-names
found_again-requires-clause-names c = names_removed c.args.database.now c.args.at c.args.rebuilt.now c.args.self c.requires

pub found_again-requires-clause-few : goal.found_again-requires-clause-few
found_again-requires-clause-few c = c.requires.kept_of.few
