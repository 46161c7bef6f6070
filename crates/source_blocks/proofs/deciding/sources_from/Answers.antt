use Rattle.std.proofs.Common.{List, ◌++◌, ap, map, sym, ◌∙◌, arith, ℕ}
use Rattle.std.specs.Rc.{rc_slice_items}
use Rattle.ti_caps.specs.Tables.{Capability}
use Rattle.ti_source.specs.Parsing.{reading_of_text}
use Rattle.source_document.specs.Diagnostics.{text_at}
use Rattle.source_blocks.specs.Deciding.{own_name, source_seen, source_with}
use Rattle.source_blocks.proofs.Outlines.{names_read}
use Rattle.source_blocks.proofs.Decisions.{source_next}
use Rattle.source_blocks.proofs.deciding.sources_from.Goals as goal

pub loop-by-preserved : goal.loop-by-preserved
loop-by-preserved c =
    let texts = c.args.database.now in
    let by = c.loop-by.by in
    let read = names_read texts by (map rc_slice_items c.names-names.result.now) (omega arith) c.names-names.ensures in
    let before = map source_seen c.loop-by.sources.items in
    let added = c.in_ok-push_source.ensures
    ∙ ap (λ (names : List (List ℕ)). before ++ source_with (own_name texts by names) c.in_ok-capabilities.capabilities.items) (sym read)
    ∙ ap (λ (caps : List Capability). before ++ source_with (own_name texts by (reading_of_text (text_at texts by)).names) caps) c.in_ok-capabilities.ensures in
    source_next texts by c.args.inherited.now before (map source_seen c.push_source.new.sources.items) _ (omega arith) c.loop-by.invariant added
