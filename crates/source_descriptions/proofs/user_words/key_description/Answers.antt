use Rattle.std.proofs.Common.{◌∙◌, ◌++◌, None, Some, ap, refl}
use Rattle.source_descriptions.specs.UserDescriptions.{UserDescribed, has_name, modified_keys, shifted_keys, user_description_seen}
use Rattle.source_descriptions.proofs.UserRows.{in_first, in_second}
use Rattle.source_descriptions.proofs.user_words.key_description.Goals as goal

pub returns-in-Some : goal.returns-in-Some
returns-in-Some c =
    in_first (has_name c.args.name.now) modified_keys shifted_keys (modified_keys ++ shifted_keys) (user_description_seen c.in_ok-of_key.field-0) refl
    (ap (λ (x : UserDescribed). Some x) c.in_ok-of_key.ensures ∙ c.in-Some.ensures)

pub returns-in_ok-of_function_key-in-Some-function_key_named : goal.returns-in_ok-of_function_key-in-Some-function_key_named
returns-in_ok-of_function_key-in-Some-function_key_named c =
    in_second (has_name c.args.name.now) modified_keys shifted_keys (modified_keys ++ shifted_keys)
    (Some (user_description_seen c.in_ok-of_function_key-in-Some-function_key_named.field-0)) refl c.in_default.ensures
    (ap (λ (x : UserDescribed). Some x) c.in_ok-of_function_key-in-Some-function_key_named.ensures ∙ c.in-Some-function_key_named.ensures)

pub returns-in-None : goal.returns-in-None
returns-in-None c =
    in_second (has_name c.args.name.now) modified_keys shifted_keys (modified_keys ++ shifted_keys) None refl c.in_default.ensures c.in-None.ensures
