use Rattle.std.proofs.Common.{◌≡◌, ap, map, ◌∙◌}
use Rattle.std.proofs.lemmas.Result.{IfOk-weaker}
use Rattle.source_blocks.proofs.Outlines.{text_is}
use Rattle.source_edits.specs.Edits.{edit_seen}
use Rattle.source_fixes.specs.Fixes as spec
use Rattle.source_fixes.specs.Fixes.{edits_in, fix_seen, fixes_in}
use Rattle.source_fixes.proofs.Ranging.{fixes_held}
use Rattle.source_fixes.proofs.fixes.fixes_from.Goals as goal

pub returns : goal.returns
returns c =
    let blocks = c.args.database.now in
    let block = c.text-block.result.now in
    let line = c.args.spot.line in
    let edits = c.in_ok-edits.edits.items in
    IfOk-weaker c.fixes_of_edits.result (λ fixes. map fix_seen fixes.items ≡ fixes_in line block (map edit_seen edits))
    (λ fixes. map fix_seen fixes.items ≡ spec.fixes_from c.args.capabilities blocks c.args.end c.args.spot)
    (λ fixes e. fixes_held c.args.capabilities blocks c.args.end c.args.spot block edits (map fix_seen fixes.items) (text_is blocks c.args.spot.at block c.text-block.ensures)
    (c.in_ok-edits.ensures ∙ ap (edits_in c.args.capabilities blocks) c.stretch_to-stretch.ensures) e)
    c.fixes_of_edits.ensures
