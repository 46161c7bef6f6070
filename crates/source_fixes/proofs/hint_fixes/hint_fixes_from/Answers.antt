use Rattle.std.proofs.Common.{◌≡◌}
use Rattle.std.proofs.lemmas.Result.{IfOk-weaker}
use Rattle.source_blocks.proofs.Outlines.{text_is}
use Rattle.source_fixes.specs.HintFixes as spec
use Rattle.source_fixes.proofs.HintRanging.{hint_fixes_held}
use Rattle.source_fixes.proofs.hint_fixes.hint_fixes_from.Goals as goal

pub returns : goal.returns
returns c =
    let blocks = c.args.database.now in
    let block = c.text-block.result.now in
    let line = c.args.spot.line in
    let stretch = c.stretch_to-stretch.result in
    IfOk-weaker c.hint_fixes_in.result (λ fixes. fixes.items ≡ spec.hint_fixes_in line block stretch)
    (λ fixes. fixes.items ≡ spec.hint_fixes_from blocks c.args.end c.args.spot)
    (λ fixes e. hint_fixes_held blocks c.args.end c.args.spot block stretch fixes.items (text_is blocks c.args.spot.at block c.text-block.ensures)
    c.stretch_to-stretch.ensures e)
    c.hint_fixes_in.ensures
