use Rattle.std.proofs.Common.{None, Option, ap, refl, ◌++◌}
use Rattle.std.specs.Option.{is_some}
use Rattle.source_descriptions.specs.UserDescriptions.{UserDescribed, has_name, modified_keys, shifted_keys}
use Rattle.source_descriptions.proofs.UserRows.{in_first, in_second}
use Rattle.source_descriptions.proofs.known_names.is_key.Goals as goal

pub returns-in-Some : goal.returns-in-Some
returns-in-Some c =
    ap (λ (o : Option UserDescribed). is_some o)
    (in_first (has_name c.args.name.now) modified_keys shifted_keys (modified_keys ++ shifted_keys) _ refl c.in-Some.ensures)

pub returns-in-Some-function_key_named : goal.returns-in-Some-function_key_named
returns-in-Some-function_key_named c =
    ap (λ (o : Option UserDescribed). is_some o)
    (in_second (has_name c.args.name.now) modified_keys shifted_keys (modified_keys ++ shifted_keys) _ refl c.in_default.ensures
    c.in-Some-function_key_named.ensures)

pub returns-in-None : goal.returns-in-None
returns-in-None c =
    ap (λ (o : Option UserDescribed). is_some o)
    (in_second (has_name c.args.name.now) modified_keys shifted_keys (modified_keys ++ shifted_keys) None refl c.in_default.ensures c.in-None.ensures)
