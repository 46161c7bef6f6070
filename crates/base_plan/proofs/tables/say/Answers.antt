use Rattle.std.proofs.Common.{refl}
use Rattle.std.proofs.lemmas.Result.{on_ok_weaker}
use Rattle.std.specs.Rc.{rc_slice_items}
use Rattle.ti_layout.specs.Values.{contents, content_true, content_number, content_text, content_cancelled}
use Rattle.base_meaning.proofs.MentionMerging.{added_one}
use Rattle.base_slots.specs.Slots.{blocks_of}
use Rattle.base_plan.proofs.tables.say.Goals as goal

pub returns-in-Flag : goal.returns-in-Flag
returns-in-Flag g c =
    rw c.in-Flag.is
    (on_ok_weaker c.push.result
    (added_one (blocks_of c.args.known.now.slots.now) _ ((c.in-Flag.cap, content_true)) (contents c.args.mentions.now) (contents c.push.new.self) refl)
    c.push.ensures)

pub returns-in-Number : goal.returns-in-Number
returns-in-Number g c =
    rw c.in-Number.is
    (on_ok_weaker c.push-in-Number.result
    (added_one (blocks_of c.args.known.now.slots.now) _ ((c.in-Number.cap, content_number c.in-Number.number)) (contents c.args.mentions.now)
    (contents c.push-in-Number.new.self) refl)
    c.push-in-Number.ensures)

pub returns-in_ok-clone-in-Text : goal.returns-in_ok-clone-in-Text
returns-in_ok-clone-in-Text g c =
    rw c.in-Text.is
    (on_ok_weaker c.push-in-Text.result
    (added_one (blocks_of c.args.known.now.slots.now) _ ((c.in-Text.cap, content_text (rc_slice_items c.in-Text.text))) (contents c.args.mentions.now)
    (contents c.push-in-Text.new.self) refl)
    (rw (← c.in_ok-clone-in-Text.ensures.cases) c.push-in-Text.ensures))

pub returns-in-Cancel : goal.returns-in-Cancel
returns-in-Cancel g c =
    rw c.in-Cancel.is
    (on_ok_weaker c.push-in-Cancel.result
    (added_one (blocks_of c.args.known.now.slots.now) _ ((c.in-Cancel.cap, content_cancelled)) (contents c.args.mentions.now)
    (contents c.push-in-Cancel.new.self) refl)
    c.push-in-Cancel.ensures)
