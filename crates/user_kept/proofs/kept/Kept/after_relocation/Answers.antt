use Rattle.std.proofs.Common.{◌≡◌, ◌∙◌, List, ap, arith, length, subst, sym}
use Rattle.std.specs.List.{insert}
use Rattle.base_meaning.specs.Edits.{relocation}
use Rattle.user_compiling.specs.declared.finding.Finding.{Finding}
use Rattle.user_kept.specs.inside.Kept.{AreRightOff}
use Rattle.user_kept.proofs.Keeping.{as_many_moved, from_moved, moved, names_moved, right_moved, stands_moved, to_moved, to_next, within_kept}
use Rattle.user_kept.proofs.kept.Kept.after_relocation.Goals as goal

pub says_at-requires : goal.says_at-requires
says_at-requires c = to_next c.args.database.now c.args.from c.args.to c.args.rebuilt.now c.args.self c.requires

pub remove-finding-requires : goal.remove-finding-requires
remove-finding-requires c =
    let l = from_moved c.args.database.now c.args.from c.args.to c.args.rebuilt.now c.args.self c.requires in
    omega (arith, l, c.args.self.findings.ok.0)

pub insert-requires : goal.insert-requires
insert-requires c =
    let l = to_moved c.args.database.now c.args.from c.args.to c.args.rebuilt.now c.args.self c.requires in
    let n = ap (λ (fs : List Finding). length fs) c.remove-finding.ensures.items in
    omega (arith, l, n, c.remove-finding.new.self.ok.0)

pub found_again-requires-clause-as_many : goal.found_again-requires-clause-as_many
found_again-requires-clause-as_many c =
    let made = c.in_ok-insert.ensures.items ∙ ap (λ (fs : List Finding). insert fs c.args.to c.remove-finding.result) c.remove-finding.ensures.items in
    subst (λ (fs : List Finding). length fs ≡ length c.args.database.now) (sym made)
    (as_many_moved c.args.database.now c.args.from c.args.to c.args.rebuilt.now c.args.self c.requires c.remove-finding.result)

pub found_again-requires-clause-within : goal.found_again-requires-clause-within
found_again-requires-clause-within c =
    within_kept c.args.database.now (λ _. relocation c.args.from c.args.to) c.args.rebuilt.now c.args.self c.requires

pub found_again-requires-clause-right : goal.found_again-requires-clause-right
found_again-requires-clause-right c =
    let made = c.in_ok-insert.ensures.items ∙ ap (λ (fs : List Finding). insert fs c.args.to c.remove-finding.result) c.remove-finding.ensures.items in
    subst (λ (fs : List Finding). AreRightOff c.args.database.now c.args.rebuilt.now fs) (sym made)
    (right_moved c.args.database.now c.args.from c.args.to c.args.rebuilt.now c.args.self c.requires c.untouched_blocks_say_the_same.ensures
    c.remove-finding.result)

pub found_again-requires-clause-names : goal.found_again-requires-clause-names
found_again-requires-clause-names c =
    let db = c.args.database.now in
    let names = names_moved db c.args.from c.args.to c.args.rebuilt.now c.args.self c.requires in
    let text = (moved db c.args.from c.args.to c.args.rebuilt.now c.args.self c.requires).0 in
    let says = c.in_ok-says_at.ensures text (stands_moved db c.args.from c.args.to c.args.rebuilt.now c.args.self c.requires) in
    omega (arith, names, says, c.saturating_add-names.ensures, c.if-names-gt-NAME_LIMIT.false)

pub found_again-requires-clause-few : goal.found_again-requires-clause-few
found_again-requires-clause-few c = omega (arith, c.if-names-gt-NAME_LIMIT.false)
