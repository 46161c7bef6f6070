use Rattle.std.proofs.Common.{◌∙◌, ap, arith, map, refl}
use Rattle.std.proofs.lemmas.List.{take_all}
use Rattle.everyday_names.specs.Fields.{fields_seen, long_field}
use Rattle.everyday_names.proofs.SourceLemmas.{more-fields}
use Rattle.everyday_names.proofs.sources.long_fields.Goals as goal

pub loop-at-init : goal.loop-at-init
loop-at-init c = ap fields_seen c.new-fields.ensures.items

pub loop-at-preserved : goal.loop-at-preserved
loop-at-preserved c =
    more-fields c.args.database.now.texts c.loop-at.at _ _ _ _ _ refl c.text.ensures (c.in_ok-field.ensures ∙ c.long_field.ensures)
    c.in_ok-push.ensures.items c.loop-at.invariant

pub returns : goal.returns
returns c = c.loop-at.invariant ∙ ap (map long_field) (take_all c.loop-at.at c.args.database.now.texts (omega arith))
