use Rattle.std.proofs.Common.{◌≡◌, true, false, rules, sym, ap, ◌∙◌}
use Rattle.std.specs.List.{list_all}
use Rattle.user_items.specs.Names.{is_user_defined_byte}
use Rattle.user_extension.specs.inside.Keys.{IsKey, is_marked}
use Rattle.user_extension.proofs.NameKeys.{unmarked_is_user_defined}
use Rattle.user_extension.proofs.keys.is_name.Goals as goal

pub returns-in-Some : goal.returns-in-Some
returns-in-Some c =
    let key : IsKey c.in-Some.key c.args.name.now = search rules in
    let unmarked : is_marked c.in-Some.key ≡ false = search rules in
    let bytes : list_all is_user_defined_byte c.args.name.now ≡ true = search rules in
    sym (unmarked_is_user_defined c.args.name.now bytes (sym (ap (λ k. is_marked k) key.0) ∙ unmarked))
