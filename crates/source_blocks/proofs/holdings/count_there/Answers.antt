use Rattle.std.proofs.Common.{ap, sym, ◌∙◌, arith}
use Rattle.ti_caps.specs.Tables.{Capability}
use Rattle.ti_layout.specs.Image.{is_there, of_kind}
use Rattle.ti_layout.specs.View.{view_contents}
use Rattle.source_blocks.proofs.EntriesHeld.{count_no, count_none, count_one}
use Rattle.source_blocks.proofs.holdings.count_there.Goals as goal
use Rattle.source_blocks.proofs.holdings.count_there.Goals.{then-is_there, else-is_there}

pub loop-index-init : goal.loop-index-init
loop-index-init c = record { so = sym (count_none (of_kind (view_contents c.args.view) c.args.kind)); few = omega arith }

pub loop-index-preserved : goal.loop-index-preserved
loop-index-preserved c =
    let places = of_kind (view_contents c.args.view) c.args.kind in
    let at = c.loop-index.index in
    let told = c.is_there.ensures ∙ ap (λ (k : Capability). is_there (view_contents c.args.view k)) c.cap_at.ensures in
    elim c.if-is_there.branch [
      | then-is_there w ↦ record {
        so = w.there-is ∙ count_one places at c.loop-index.there (sym told ∙ w.if-is_there.true) c.loop-index.invariant.so;
        few =
            omega arith;
      }
      | else-is_there w ↦ record {
        so = w.there-is ∙ count_no places at c.loop-index.there (sym told ∙ w.if-is_there.false) c.loop-index.invariant.so;
        few =
            omega arith;
      }
    ]
