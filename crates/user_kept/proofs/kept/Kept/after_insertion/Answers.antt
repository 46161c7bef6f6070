use Rattle.std.proofs.Common.{◌≡◌, List, arith, length, subst, sym}
use Rattle.base_meaning.specs.Edits.{insertion}
use Rattle.user_compiling.specs.declared.finding.Finding.{Finding}
use Rattle.user_kept.specs.inside.Kept.{AreRightOff}
use Rattle.user_kept.proofs.Keeping.{as_many_inserted, names_inserted, place_inserted, right_inserted, stands_inserted, within_kept}
use Rattle.user_kept.proofs.kept.Kept.after_insertion.Goals as goal

pub insert-requires : goal.insert-requires
insert-requires c =
    let l = place_inserted c.args.database.now c.args.at c.args.rebuilt.now c.args.self c.requires in
    omega (arith, l, c.args.self.findings.ok.0)

pub found_again-requires-clause-as_many : goal.found_again-requires-clause-as_many
found_again-requires-clause-as_many c =
    subst (λ (fs : List Finding). length fs ≡ length c.args.database.now) (sym c.in_ok-insert.ensures.items)
    (as_many_inserted c.args.database.now c.args.at c.args.rebuilt.now c.args.self c.requires c.in-Some.finding)

pub found_again-requires-clause-within : goal.found_again-requires-clause-within
found_again-requires-clause-within c = within_kept c.args.database.now (insertion c.args.at) c.args.rebuilt.now c.args.self c.requires

pub found_again-requires-clause-right : goal.found_again-requires-clause-right
found_again-requires-clause-right c =
    subst (λ (fs : List Finding). AreRightOff c.args.database.now c.args.rebuilt.now fs) (sym c.in_ok-insert.ensures.items)
    (right_inserted c.args.database.now c.args.at c.args.rebuilt.now c.args.self c.requires c.untouched_blocks_say_the_same.ensures c.in-Some.finding)

pub found_again-requires-clause-names : goal.found_again-requires-clause-names
found_again-requires-clause-names c =
    let db = c.args.database.now in
    let names = names_inserted db c.args.at c.args.rebuilt.now c.args.self c.requires in
    let says = c.in_ok-says_at.ensures c.requires.text (stands_inserted db c.args.at c.args.rebuilt.now c.args.self c.requires) in
    omega (arith, names, says, c.saturating_add-names.ensures, c.if-names-gt-NAME_LIMIT.false)

pub found_again-requires-clause-few : goal.found_again-requires-clause-few
found_again-requires-clause-few c = omega (arith, c.if-names-gt-NAME_LIMIT.false)
