use Rattle.std.proofs.Common.{◌∷◌, ◌++◌, [], List, get_or, ap, sym, ◌∙◌, arith}
use Rattle.std.proofs.lemmas.List.{append_assoc}
use Rattle.ti_source.specs.Folding.{PlacedByte}
use Rattle.source_spans.specs.inside.Lines.{range_at}
use Rattle.source_spans.proofs.Lines.{range_more}
use Rattle.source_spans.proofs.folding.push_range.Goals as goal

pub loop-at-preserved : goal.loop-at-preserved
loop-at-preserved c =
    let block = c.args.block.now in
    let old = c.args.text.now.items in
    let at = c.loop-at.at in
    c.in_ok-push.ensures.items ∙ ap (λ (t : List PlacedByte). t ++ (get_or block at 0, at) ∷ []) c.loop-at.invariant
    ∙ append_assoc old (range_at block c.args.start at) ((get_or block at 0, at) ∷ [])
    ∙ ap (λ (t : List PlacedByte). old ++ t) (sym (range_more block c.args.start at (omega arith) (omega arith)))
