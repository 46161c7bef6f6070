use Rattle.std.proofs.Common.{List, Some, ap, sym, ◌∙◌}
use Rattle.ti_source.specs.Folding.{PlacedByte}
use Rattle.source_spans.specs.Parts.{part_of}
use Rattle.source_spans.specs.Subjects.{without_end}
use Rattle.source_spans.proofs.Seeing.{used_is}
use Rattle.source_spans.proofs.items.used_part.Goals as goal

pub returns-clause-name : goal.returns-clause-name
returns-clause-name c =
    let begins = sym c.begins_with.ensures.begins ∙ c.if-not-begins_with.false in
    ap (λ (t : List PlacedByte). Some t) (c.without_end.ensures.part ∙ ap without_end c.value_part.ensures.part)
    ∙ sym (used_is (part_of c.args.text.now c.args.item) begins)
