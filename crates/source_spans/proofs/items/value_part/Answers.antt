use Rattle.std.proofs.Common.{ap, ◌∙◌, arith}
use Rattle.ti_source.specs.Items.{without_front}
use Rattle.source_spans.proofs.Seeing.{use_long, value_is}
use Rattle.source_spans.proofs.items.value_part.Goals as goal

pub without_front-requires : goal.without_front-requires
without_front-requires c =
    let long = use_long c.args.text.now c.args.item c.requires.begins in
    (omega (arith, long), c.requires.within.1)

pub returns-clause-part : goal.returns-clause-part
returns-clause-part c =
    c.without_front.ensures.part ∙ ap without_front (value_is c.args.text.now c.args.item (use_long c.args.text.now c.args.item c.requires.begins))
