use Rattle.std.proofs.Common.{◌∷◌, ◌++◌, [], List, ℕ, get_or, ap, sym, ◌∙◌, arith}
use Rattle.std.specs.List.{slice_range}
use Rattle.ti_source.specs.Folding.{PlacedByte}
use Rattle.ti_source.specs.Items.{bytes}
use Rattle.source_spans.proofs.Parting.{none_of}
use Rattle.source_spans.proofs.Seeing.{bytes_more}
use Rattle.source_hints.proofs.unknown.bytes_of.Goals as goal

pub loop-at-init : goal.loop-at-init
loop-at-init c = c.new-bytes.ensures.items ∙ ap (λ (t : List PlacedByte). bytes t) (sym (none_of c.args.text.now c.args.part.start))

pub loop-at-preserved : goal.loop-at-preserved
loop-at-preserved c =
    let text = c.args.text.now in
    let start = c.args.part.start in
    let at = c.loop-at.at in
    let x = get_or text at (0, 0) in
    c.in_ok-push.ensures.items ∙ ap (λ (t : List ℕ). t ++ x.0 ∷ []) c.loop-at.invariant
    ∙ sym (bytes_more text start at (0, 0) (omega arith) (omega arith))
