use Rattle.std.proofs.Common.{ap, refl}
use Rattle.base_slots.specs.inside.Fields.{slot_stored}
use Rattle.base_slots.proofs.changes.make_place.Goals as goal

pub returns-in_err-push-clause-listed : goal.returns-in_err-push-clause-listed
returns-in_err-push-clause-listed c = refl

pub returns-in_err-push-clause-kept : goal.returns-in_err-push-clause-kept
returns-in_err-push-clause-kept c = λ some. some

pub returns-in_err-push-clause-places : goal.returns-in_err-push-clause-places
returns-in_err-push-clause-places c = rw c.in_err-push.ensures.items c.requires.places

pub returns-in_err-push-clause-slots : goal.returns-in_err-push-clause-slots
returns-in_err-push-clause-slots c = λ id. ap (λ slots. slot_stored slots id) c.in_err-push.ensures.items

pub reserve-requires : goal.reserve-requires
reserve-requires c = c.requires.few

pub returns-clause-listed : goal.returns-clause-listed
returns-clause-listed c = c.reserve.ensures.listed

pub returns-clause-kept : goal.returns-clause-kept
returns-clause-kept c = λ some. rw (c.reserve.ensures.kept some) some

pub returns-clause-free : goal.returns-clause-free
returns-clause-free c = c.reserve.ensures.ok
