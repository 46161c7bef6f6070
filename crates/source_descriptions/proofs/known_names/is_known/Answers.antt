use Rattle.std.proofs.Common.{Option, ap, refl, ◌++◌, ◌∙◌}
use Rattle.std.specs.Option.{is_some}
use Rattle.source_descriptions.specs.UserDescriptions.{UserDescribed, described_rows, has_name, modified_keys, shifted_keys, user_descriptions}
use Rattle.source_descriptions.proofs.UserRows.{in_first, in_second}
use Rattle.source_descriptions.proofs.known_names.is_known.Goals as goal

pub returns-in-Some : goal.returns-in-Some
returns-in-Some c =
    ap (λ (o : Option UserDescribed). is_some o)
    (in_first (has_name c.args.name.now) described_rows (modified_keys ++ shifted_keys) user_descriptions _ refl c.in-Some.ensures)

pub returns : goal.returns
returns c =
    c.is_key.ensures
    ∙ ap (λ (o : Option UserDescribed). is_some o)
    (in_second (has_name c.args.name.now) described_rows (modified_keys ++ shifted_keys) user_descriptions _ refl c.in_default.ensures refl)
