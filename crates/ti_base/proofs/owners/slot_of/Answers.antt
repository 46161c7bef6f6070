use Rattle.std.proofs.Common.{◌<◌, length, slice_get, ap, sym, ◌∙◌, arith}
use Rattle.std.proofs.lemmas.Option.{slice_get-get_or}
use Rattle.base_slots.proofs.Owners.{length_ids}
use Rattle.ti_base.proofs.owners.slot_of.Goals as goal

pub bounds-ids-at : goal.bounds-ids-at
bounds-ids-at c = omega (arith, c.requires, length_ids c.args.slots.now, ap length c.ids.ensures.ids)

pub slot-requires : goal.slot-requires
slot-requires c =
    let ids = c.ids.result.now in
    let within : c.args.at < length ids = omega (arith, c.requires, length_ids c.args.slots.now, ap length c.ids.ensures.ids) in
    (c.args.at, ap (λ xs. slice_get xs c.args.at) (sym c.ids.ensures.ids) ∙ slice_get-get_or ids c.args.at 0 within)

pub returns : goal.returns
returns c =
    let ids = c.ids.result.now in
    let within : c.args.at < length ids = omega (arith, c.requires, length_ids c.args.slots.now, ap length c.ids.ensures.ids) in
    c.slot.ensures.slot c.args.at (ap (λ xs. slice_get xs c.args.at) (sym c.ids.ensures.ids) ∙ slice_get-get_or ids c.args.at 0 within)
