use Rattle.std.proofs.Common.{◌≡◌, ◌<◌, ◌+◌, length, drop, set, sym, ◌∙◌, ap, subst, arith}
use Rattle.std.proofs.lemmas.List.{length-set}
use Rattle.ti_text.specs.Lists.{Has}
use Rattle.base_slots.specs.Slots.{ids_of}
use Rattle.ti_base.specs.inside.Database.{settled_all}
use Rattle.ti_base.proofs.Installing.{one_more_settled, all_stay}
use Rattle.ti_base.proofs.rebuilding.install.Goals as goal

pub exchange_settled-requires : goal.exchange_settled-requires
exchange_settled-requires c =
    let l = c.loop-index in
    let same : length l.plan.ids.items ≡ length c.args.plan.ids.items = ap (λ v. length v.items) l.invariant.0 in
    let within : l.index < length l.plan.ids.items = omega (arith, same) in
    subst (λ n. Has (ids_of l.slots) n) (sym c.index.ensures) (l.invariant.4 l.index c.index.result.now within)

pub loop-index-preserved : goal.loop-index-preserved
loop-index-preserved c =
    let l = c.loop-index in
    let h = l.invariant in
    let same : length l.plan.ids.items ≡ length c.args.plan.ids.items = ap (λ v. length v.items) h.0 in
    let within : l.index < length l.plan.ids.items = omega (arith, same) in
    let same_length = length-set l.plan.settled.items l.index c.exchange_settled.new.settled in (
      h.0,
      h.1,
      h.2,
      same_length ∙ h.3,
      all_stay l.slots c.exchange_settled.new.self l.plan.ids.items c.index.result.now c.index_mut.result.now c.exchange_settled.ensures h.4,
      ap (λ slots. settled_all slots (drop (l.index + 1) l.plan.ids.items)
          (drop (l.index + 1) (set l.plan.settled.items l.index c.exchange_settled.new.settled))) c.exchange_settled.ensures
          ∙ (one_more_settled l.slots l.plan.ids.items l.plan.settled.items l.index c.index.result.now c.index_mut.result.now c.exchange_settled.new.settled
          within h.3 c.index.ensures c.index_mut.ensures.value ∙ h.5),
    )
