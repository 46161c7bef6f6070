use Rattle.std.proofs.Common.{◌+◌, ◌++◌, ◌∙◌, ap, sym, map, drop}
use Rattle.ti_source.specs.Reading.{fault_of}
use Rattle.user_items.specs.Reading.{user_fault_of}
use Rattle.user_compiling.specs.inside.Pairs.{pairs, warning_ordinals}
use Rattle.user_compiling.proofs.Pairs.{map-drop_item}
use Rattle.user_compiling.proofs.own_codes.pair.Goals as goal

pub loop-local-preserved : goal.loop-local-preserved
loop-local-preserved c =
    let locals = c.args.locals.now in
    let i = c.loop-local.local-index in
    record {
      all = c.in_ok-add_code.ensures.added (map fault_of (drop (i + 1) locals))
          ∙ ap (λ fs. c.loop-local.codes.items ++ pairs (warning_ordinals fs) (map user_fault_of (drop c.loop-local.next c.args.own.now)))
          (sym (map-drop_item fault_of locals i c.local-item.result c.loop-local-test.true c.local-item.is))
          ∙ c.loop-local.invariant.all;
      within = c.add_code.ensures.within;
    }
