use Rattle.std.proofs.Common.{◌∙◌, ◌++◌, Some, ap, option_map, refl}
use Rattle.std.proofs.lemmas.Result.{IfOk-weaker}
use Rattle.source_descriptions.specs.UserDescriptions.{UserDescribed, described_rows, has_name, modified_keys, shifted_keys, user_description_seen, user_descriptions}
use Rattle.source_descriptions.proofs.UserRows.{in_first, in_second}
use Rattle.source_descriptions.proofs.user_words.user_description.Goals as goal

pub returns-in-Some : goal.returns-in-Some
returns-in-Some c =
    in_first (has_name c.args.name.now) described_rows (modified_keys ++ shifted_keys) user_descriptions
    (user_description_seen c.in_ok-of_row.field-0) refl
    (ap (λ (x : UserDescribed). Some x) c.in_ok-of_row.ensures ∙ c.in-Some.ensures)

pub returns : goal.returns
returns c =
    IfOk-weaker c.key_description.result _ _
    (λ said same. in_second (has_name c.args.name.now) described_rows (modified_keys ++ shifted_keys) user_descriptions
    (option_map user_description_seen said) refl c.in_default.ensures same)
    c.key_description.ensures
