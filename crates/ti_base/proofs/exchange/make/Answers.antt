use Rattle.std.proofs.Common.{subst}
use Rattle.base_meaning.specs.Edits.{change_of}
use Rattle.ti_base.specs.inside.Exchanges.{IsExchanged, out_position}
use Rattle.ti_base.proofs.EditedSlots.{can_edit, edited, edited_by}
use Rattle.ti_base.proofs.exchange.make.Goals as goal

pub exchange-requires : goal.exchange-requires
exchange-requires c =
    let change = change_of c.args.edit.now in
    rw (c.positions-out.ensures.out, c.positions-out.ensures.put)
    (can_edit c.args.slots.now change c.args.spare.now c.requires.read c.requires.sound.in_place c.requires.new)

pub returns-clause-made : goal.returns-clause-made
returns-clause-made c = rw (← c.positions-out.ensures.out, ← c.positions-out.ensures.put) c.exchange.ensures

pub returns-clause-edited : goal.returns-clause-edited
returns-clause-edited c =
    let slots = c.args.slots.now in
    let new = c.exchange.new.slots in
    let spare = c.args.spare.now in
    let after = c.exchange.new.spare in
    let change = change_of c.args.edit.now in
    let first = subst (λ p. IsExchanged slots new p c.positions-out.result.1 spare after c.exchange.result) c.positions-out.ensures.out c.exchange.ensures in
    let made = subst (λ p. IsExchanged slots new (out_position change) p spare after c.exchange.result) c.positions-out.ensures.put first in
    edited slots new change spare after c.exchange.result c.requires.read c.requires.sound c.requires.new made

pub returns-clause-ruled : goal.returns-clause-ruled
returns-clause-ruled c = λ rule ruled new_ruled.
    let slots = c.args.slots.now in
    let new = c.exchange.new.slots in
    let spare = c.args.spare.now in
    let after = c.exchange.new.spare in
    let change = change_of c.args.edit.now in
    let first = subst (λ p. IsExchanged slots new p c.positions-out.result.1 spare after c.exchange.result) c.positions-out.ensures.out c.exchange.ensures in
    let made = subst (λ p. IsExchanged slots new (out_position change) p spare after c.exchange.result) c.positions-out.ensures.put first in
    edited_by rule slots new change spare after c.exchange.result c.requires.read ruled c.requires.sound c.requires.new new_ruled made
