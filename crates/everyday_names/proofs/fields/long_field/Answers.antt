use Rattle.std.proofs.Common.{◌∙◌, false, refl, sym, true}
use Rattle.everyday_names.proofs.FieldLemmas.{cut-first, long-found, nowhere}
use Rattle.everyday_names.proofs.fields.long_field.Goals as goal

pub returns-in-None : goal.returns-in-None
returns-in-None c = rw (nowhere c.args.text.now c.in-None.ensures) refl

pub returns-then-is_long_field : goal.returns-then-is_long_field
returns-then-is_long_field c =
    sym (long-found c.args.text.now c.in-Some.end true (cut-first c.args.text.now c.in-Some.end c.in-Some.ensures)
    (sym c.is_long_field.ensures ∙ c.if-is_long_field.true))

pub returns-else-is_long_field : goal.returns-else-is_long_field
returns-else-is_long_field c =
    sym (long-found c.args.text.now c.in-Some.end false (cut-first c.args.text.now c.in-Some.end c.in-Some.ensures)
    (sym c.is_long_field.ensures ∙ c.if-is_long_field.false))
