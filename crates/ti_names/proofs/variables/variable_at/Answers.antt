-- each list of the code has the variables of its kind
use Rattle.std.proofs.Common.{ap, ◌∙◌, get_or, []}
use Rattle.ti_names.proofs.VariableTables.{flags_are, numbers_are, texts_are}
use Rattle.ti_names.proofs.variables.variable_at.Goals as goal

pub returns-in-Flag : goal.returns-in-Flag
returns-in-Flag c = rw c.in-Flag.is (c.text_at.ensures ∙ ap (λ ws. get_or ws c.args.index []) flags_are)

pub returns-in-Number : goal.returns-in-Number
returns-in-Number c = rw c.in-Number.is (c.text_at-in-Number.ensures ∙ ap (λ ws. get_or ws c.args.index []) numbers_are)

pub returns-in-Text : goal.returns-in-Text
returns-in-Text c = rw c.in-Text.is (c.text_at-in-Text.ensures ∙ ap (λ ws. get_or ws c.args.index []) texts_are)
