use Rattle.std.proofs.Common.{◌∙◌, ap}
use Rattle.ti_source.specs.Items.{bytes}
use Rattle.ti_source.specs.Parsing.{reading_of_text}
use Rattle.ti_source.specs.inside.Items.{field_of}
use Rattle.ti_source.proofs.parsing.names_field.Goals as goal

pub returns : goal.returns
unfolding reading_of_text
returns c = c.in_ok-field.ensures.field ∙ ap (λ s. bytes (field_of s)) c.new-source.ensures.value
