-- each constant has the names of its kind
use Rattle.std.proofs.Common.{◌≡◌, map, ap, ◌∙◌, get_or, [], refl}
use Rattle.ti_caps.specs.declared.capability.Kind.TheVariants.{Flag, Number, Text}
use Rattle.ti_caps.specs.declared.tables.TheConstants.{FLAGS, NUMBERS, TEXTS}
use Rattle.ti_caps.specs.Names.{flag_names, number_names, text_names}
use Rattle.ti_caps.specs.Tables.{names}
use Rattle.ti_caps.proofs.lookup.text_of.Goals as goal

flags_are : map (λ t. t.now) FLAGS ≡ names Flag
unfolding names flag_names
flags_are = refl

numbers_are : map (λ t. t.now) NUMBERS ≡ names Number
unfolding names number_names
numbers_are = refl

texts_are : map (λ t. t.now) TEXTS ≡ names Text
unfolding names text_names
texts_are = refl

pub returns-in-Flag : goal.returns-in-Flag
returns-in-Flag c = rw c.in-Flag.is (c.text_at.ensures ∙ ap (λ ns. get_or ns c.args.index []) flags_are)

pub returns-in-Number : goal.returns-in-Number
returns-in-Number c = rw c.in-Number.is (c.text_at-in-Number.ensures ∙ ap (λ ns. get_or ns c.args.index []) numbers_are)

pub returns-in-Text : goal.returns-in-Text
returns-in-Text c = rw c.in-Text.is (c.text_at-in-Text.ensures ∙ ap (λ ns. get_or ns c.args.index []) texts_are)
