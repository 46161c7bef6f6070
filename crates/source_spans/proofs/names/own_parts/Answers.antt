use Rattle.std.proofs.Common.{List, ap, ◌∙◌, map, arith}
use Rattle.source_spans.specs.Parts.{field_of, names_of, part_of}
use Rattle.source_spans.specs.declared.parts.Part.{Part}
use Rattle.source_spans.proofs.Seeing.{names_looked_up}
use Rattle.source_spans.proofs.names.own_parts.Goals as goal

pub returns-clause-parts : goal.returns-clause-parts
returns-clause-parts c =
    let text = c.args.text.now in
    let parts = c.in_ok-names.names.items in
    let computed = c.in_ok-names.ensures.computed ∙ ap names_of c.field_len.ensures.field in
    ap (λ (items : List Part). map (part_of text) items) c.truncate.ensures.items
    ∙ names_looked_up text parts c.lookup_count-count.result c.len.result (field_of text) computed (omega arith) c.lookup_count-count.ensures.count
