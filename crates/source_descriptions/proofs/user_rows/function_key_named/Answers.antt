use Rattle.std.proofs.Common.{ap, ◌∙◌}
use Rattle.std.specs.List.{find}
use Rattle.source_descriptions.specs.UserDescriptions.{has_name}
use Rattle.source_descriptions.proofs.UserRows.{shifted_are}
use Rattle.source_descriptions.proofs.user_rows.function_key_named.Goals as goal

pub returns : goal.returns
returns c = c.number_in.ensures ∙ ap (find (has_name c.args.name.now)) shifted_are
