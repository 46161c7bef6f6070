use Rattle.std.proofs.Common.{ap, ◌∙◌}
use Rattle.std.specs.List.{find}
use Rattle.source_descriptions.specs.UserDescriptions.{has_name}
use Rattle.source_descriptions.proofs.UserRows.{modified_by_are}
use Rattle.source_descriptions.proofs.user_rows.modifier_of.Goals as goal

pub returns : goal.returns
returns c = c.modifier_in.ensures ∙ ap (find (has_name c.args.name.now)) (modified_by_are (c.args.key.0.now, c.args.key.1.now))
