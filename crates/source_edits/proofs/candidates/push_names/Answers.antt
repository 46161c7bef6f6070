use Rattle.std.proofs.Common.{ap, ◌∙◌, arith}
use Rattle.ti_caps.specs.Tables.{names}
use Rattle.source_edits.proofs.Listing.{names_more, seen}
use Rattle.source_edits.proofs.candidates.push_names.Goals as goal

pub loop-index-preserved : goal.loop-index-preserved
loop-index-preserved c =
    let list = names c.args.kind in
    ap seen c.in_ok-push.ensures.items
    ∙ names_more list (seen c.args.all.now.items) c.loop-index.all.items c.name_at.result c.loop-index.index
    (omega (arith, c.count-index-end.ensures.names)) c.loop-index.invariant c.name_at.ensures
