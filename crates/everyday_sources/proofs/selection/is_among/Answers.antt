use Rattle.std.proofs.Common.{◌≡◌, ◌∙◌, false, true, sym, rules, arith}
use Rattle.std.specs.Rc.{rc_slice_items}
use Rattle.std.specs.Str.{bytes_eq}
use Rattle.everyday_sources.proofs.Finding.{any_here, any_later, any_none}
use Rattle.everyday_sources.proofs.selection.is_among.Goals as goal

pub returns-then-eq : goal.returns-then-eq
returns-then-eq c =
    let same : bytes_eq c.args.name.now (rc_slice_items c.other-item.result) ≡ true = search rules in
    sym (any_here (bytes_eq c.args.name.now) rc_slice_items c.args.names.now c.loop-other.other-index c.other-item.result
    (omega arith) c.other-item.is same) ∙ c.loop-other.invariant

pub loop-other-preserved : goal.loop-other-preserved
loop-other-preserved c =
    let other : bytes_eq c.args.name.now (rc_slice_items c.other-item.result) ≡ false = search rules in
    any_later (bytes_eq c.args.name.now) rc_slice_items c.args.names.now c.loop-other.other-index c.other-item.result (omega arith) c.other-item.is other
    ∙ c.loop-other.invariant

pub returns : goal.returns
returns c = sym (any_none (bytes_eq c.args.name.now) rc_slice_items c.args.names.now c.loop-other.other-index (omega arith)) ∙ c.loop-other.invariant
