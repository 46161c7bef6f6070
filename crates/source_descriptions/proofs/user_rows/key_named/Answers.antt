use Rattle.std.proofs.Common.{ap, ◌∙◌}
use Rattle.std.specs.List.{find}
use Rattle.source_descriptions.specs.UserDescriptions.{has_name}
use Rattle.source_descriptions.proofs.UserRows.{keys_are}
use Rattle.source_descriptions.proofs.user_rows.key_named.Goals as goal

pub returns : goal.returns
returns c = c.key_in.ensures ∙ ap (find (has_name c.args.name.now)) keys_are
