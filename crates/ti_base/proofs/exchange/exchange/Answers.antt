use Rattle.std.proofs.Common.{subst, sym, ◌∙◌}
use Rattle.ti_base.specs.inside.Exchanges.{CanExchange}
use Rattle.ti_base.proofs.SlotExchanges.{exchanged_out, exchanged_put, put_fits, put_there, put_room}
use Rattle.ti_base.proofs.exchange.exchange.Goals as goal

pub unwrap-slot-requires : goal.unwrap-slot-requires
unwrap-slot-requires c =
    let can = subst (λ p. CanExchange c.args.slots.now c.args.out p c.args.spare.now) c.in-Some.is c.requires in
    rw c.trade.ensures.put (put_there c.args.slots.now c.take_out-taken.new.slots c.args.out c.in-Some.at c.args.spare.now c.take_out-taken.result can
    c.take_out-taken.ensures)

pub put_in-requires-clause-within : goal.put_in-requires-clause-within
put_in-requires-clause-within c =
    let can = subst (λ p. CanExchange c.args.slots.now c.args.out p c.args.spare.now) c.in-Some.is c.requires in
    put_fits c.args.slots.now c.take_out-taken.new.slots c.args.out c.in-Some.at c.args.spare.now c.take_out-taken.result can c.take_out-taken.ensures

pub put_in-requires-clause-room : goal.put_in-requires-clause-room
put_in-requires-clause-room c =
    let can = subst (λ p. CanExchange c.args.slots.now c.args.out p c.args.spare.now) c.in-Some.is c.requires in
    put_room c.args.slots.now c.take_out-taken.new.slots c.args.out c.in-Some.at c.args.spare.now c.take_out-taken.result c.unwrap-slot.result can
    c.take_out-taken.ensures
    (sym c.unwrap-slot.ensures ∙ c.trade.ensures.put)

pub returns-in-Some : goal.returns-in-Some
returns-in-Some c =
    let can = subst (λ p. CanExchange c.args.slots.now c.args.out p c.args.spare.now) c.in-Some.is c.requires in
    rw c.in-Some.is (exchanged_put c.args.slots.now c.take_out-taken.new.slots c.put_in.new.self c.args.out c.in-Some.at c.put_in.result c.args.spare.now
    c.take_out-taken.result c.trade.new.spare c.unwrap-slot.result can c.take_out-taken.ensures
    c.put_in.ensures (sym c.unwrap-slot.ensures ∙ c.trade.ensures.put) c.trade.ensures.left)

pub returns-in-None : goal.returns-in-None
returns-in-None c =
    let can = subst (λ p. CanExchange c.args.slots.now c.args.out p c.args.spare.now) c.in-None.is c.requires in
    rw c.in-None.is (exchanged_out c.args.slots.now c.take_out-taken.new.slots c.args.out c.args.spare.now c.take_out-taken.result can c.take_out-taken.ensures)
