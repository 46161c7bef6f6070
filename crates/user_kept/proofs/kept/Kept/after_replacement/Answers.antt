use Rattle.std.proofs.Common.{arith}
use Rattle.base_meaning.specs.Edits.{replacement}
use Rattle.user_kept.proofs.Keeping.{as_many_replaced, names_replaced, right_replaced, stands_replaced, within_kept}
use Rattle.user_kept.proofs.kept.Kept.after_replacement.Goals as goal

pub found_again-requires-clause-as_many : goal.found_again-requires-clause-as_many
found_again-requires-clause-as_many c = as_many_replaced c.args.database.now c.args.at c.args.rebuilt.now c.args.self c.requires

pub found_again-requires-clause-within : goal.found_again-requires-clause-within
found_again-requires-clause-within c = within_kept c.args.database.now (replacement c.args.at) c.args.rebuilt.now c.args.self c.requires

pub found_again-requires-clause-right : goal.found_again-requires-clause-right
found_again-requires-clause-right c =
    right_replaced c.args.database.now c.args.at c.args.rebuilt.now c.args.self c.requires c.untouched_blocks_say_the_same.ensures

pub found_again-requires-clause-names : goal.found_again-requires-clause-names
found_again-requires-clause-names c =
    let db = c.args.database.now in
    let names = names_replaced db c.args.at c.args.rebuilt.now c.args.self c.requires in
    let says = c.in_ok-says_at.ensures c.requires.text (stands_replaced db c.args.at c.args.rebuilt.now c.args.self c.requires) in
    omega (arith, names, says, c.saturating_add-names.ensures, c.if-names-gt-NAME_LIMIT.false)

pub found_again-requires-clause-few : goal.found_again-requires-clause-few
found_again-requires-clause-few c = omega (arith, c.if-names-gt-NAME_LIMIT.false)
