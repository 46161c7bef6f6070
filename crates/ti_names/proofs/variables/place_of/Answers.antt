-- each list of the code has its index
use Rattle.std.proofs.Common.{◌∙◌, ap}
use Rattle.ti_caps.specs.declared.capability.Kind.TheVariants.{Flag, Number, Text}
use Rattle.ti_names.specs.Names.{last_place_of}
use Rattle.ti_names.proofs.VariableTables.{keys, places, index_of, flags_are, numbers_are, texts_are}
use Rattle.ti_names.proofs.variables.place_of.Goals as goal

pub last_place-requires : goal.last_place-requires
unfolding keys places
last_place-requires c = rw flags_are (index_of Flag)

pub last_place-requires-in-Number : goal.last_place-requires-in-Number
unfolding keys places
last_place-requires-in-Number c = rw numbers_are (index_of Number)

pub last_place-requires-in-Text : goal.last_place-requires-in-Text
unfolding keys places
last_place-requires-in-Text c = rw texts_are (index_of Text)

pub returns-in-Flag : goal.returns-in-Flag
returns-in-Flag c = rw c.in-Flag.is (c.last_place.ensures ∙ ap (λ ws. last_place_of c.args.variable.now ws) flags_are)

pub returns-in-Number : goal.returns-in-Number
returns-in-Number c = rw c.in-Number.is (c.last_place-in-Number.ensures ∙ ap (λ ws. last_place_of c.args.variable.now ws) numbers_are)

pub returns-in-Text : goal.returns-in-Text
returns-in-Text c = rw c.in-Text.is (c.last_place-in-Text.ensures ∙ ap (λ ws. last_place_of c.args.variable.now ws) texts_are)
