use Rattle.std.proofs.Common.{◌+◌, ◌||◌, Bool, drop, map, ap, sym, ◌∙◌, arith}
use Rattle.ti_source.specs.Reading.{item_of}
use Rattle.base_meaning.specs.Owner.{readings}
use Rattle.source_names.specs.Renaming.{is_used}
use Rattle.source_names.proofs.Seeking.{used_next}
use Rattle.source_names.proofs.renaming.is_used.Goals as goal

pub returns-then-any_use_of : goal.returns-then-any_use_of
returns-then-any_use_of c =
    let blocks = c.args.database.now in
    let at = c.loop-at.at in
    let name = c.args.name.now in
    ap (λ (b : Bool). b || is_used (readings (drop (at + 1) blocks)) name) (sym c.if-any_use_of.true)
    ∙ used_next blocks at name (map item_of c.items.result.now) c.any_use_of.result (is_used (readings blocks) name) (omega arith)
    c.items.ensures c.any_use_of.ensures c.loop-at.invariant

pub loop-at-preserved : goal.loop-at-preserved
loop-at-preserved c =
    let blocks = c.args.database.now in
    let at = c.loop-at.at in
    let name = c.args.name.now in
    ap (λ (b : Bool). b || is_used (readings (drop (at + 1) blocks)) name) (sym c.if-any_use_of.false)
    ∙ used_next blocks at name (map item_of c.items.result.now) c.any_use_of.result (is_used (readings blocks) name) (omega arith)
    c.items.ensures c.any_use_of.ensures c.loop-at.invariant
