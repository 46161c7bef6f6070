use Rattle.std.proofs.Common.{ap, subst, sym, ◌∙◌}
use Rattle.base_meaning.specs.Edits.{IsSoundEdit, change_of, list_after}
use Rattle.base_meaning.specs.Dependents.{RebuildsBy}
use Rattle.ti_base.specs.inside.Database.{EachSlot, HasRule, SlotsAreSettled}
use Rattle.ti_base.specs.inside.Exchanges.{CanUndo}
use Rattle.ti_base.proofs.SlotExchanges.{kept_same, read_same, texts_back}
use Rattle.ti_base.proofs.EditedSlots.{edit_undone}
use Rattle.ti_base.proofs.slot_edits.edit_sound.Goals as goal

pub make-id-requires-clause-sound : goal.make-id-requires-clause-sound
make-id-requires-clause-sound c = subst (λ texts. IsSoundEdit texts (change_of c.args.edit.now)) (sym c.read_new.ensures.texts) c.requires.sound

pub rebuild-requires-clause-ready : goal.rebuild-requires-clause-ready
rebuild-requires-clause-ready c =
    c.make-id.ensures.edited.ready (subst SlotsAreSettled (sym c.read_new.ensures.slots) c.requires.kept.settled)

pub returns-in-Ok-clause-kept : goal.returns-in-Ok-clause-kept
returns-in-Ok-clause-kept c = kept_same c.rebuild.new.slots c.forget.new.slots c.in-Ok.ensures.kept c.forget.ensures.read c.forget.ensures.slots

pub returns-in-Ok-clause-texts : goal.returns-in-Ok-clause-texts
returns-in-Ok-clause-texts c =
    c.forget.ensures.texts
    ∙ (c.in-Ok.ensures.texts
    ∙ (c.make-id.ensures.edited.texts ∙ ap (λ texts. list_after texts (change_of c.args.edit.now)) c.read_new.ensures.texts))

pub returns-in-Ok-clause-rebuilds : goal.returns-in-Ok-clause-rebuilds
returns-in-Ok-clause-rebuilds c =
    let e = c.in-Ok.edited in
    let ruled = subst (EachSlot (HasRule c.args.rule)) (sym c.read_new.ensures.slots) c.requires.ruled in
    subst (λ texts. RebuildsBy c.args.rule texts (change_of c.args.edit.now) e.rebuilt.items e.work) c.read_new.ensures.texts
    ((c.make-id.ensures.ruled c.args.rule ruled c.in_ok-spare.ensures.ruled).rebuilds e.rebuilt.items e.work c.in-Ok.ensures.dependents c.in-Ok.ensures.steps)

pub returns-in-Ok-clause-ruled : goal.returns-in-Ok-clause-ruled
returns-in-Ok-clause-ruled c =
    let ruled = subst (EachSlot (HasRule c.args.rule)) (sym c.read_new.ensures.slots) c.requires.ruled in
    let made = c.make-id.ensures.ruled c.args.rule ruled c.in_ok-spare.ensures.ruled in
    subst (EachSlot (HasRule c.args.rule)) (sym c.forget.ensures.slots) (c.in-Ok.ensures.ruled c.args.rule made.ruled)

-- ---- the way back

pub undo-requires : goal.undo-requires
undo-requires c = subst (λ slots. CanUndo slots (change_of c.args.edit.now) c.make-id.new.spare) (sym c.in-Err.ensures.err) c.make-id.ensures.made.back

pub forget-requires-in-Err : goal.forget-requires-in-Err
forget-requires-in-Err c =
    let sound = subst (λ texts. IsSoundEdit texts (change_of c.args.edit.now)) (sym c.read_new.ensures.texts) c.requires.sound in
    read_same c.read_new.new.slots c.undo.new.slots c.read_new.ensures.read
    (edit_undone c.read_new.new.slots c.make-id.new.slots c.rebuild.new.slots c.undo.new.slots
    (change_of c.args.edit.now) c.in_ok-spare.spare c.make-id.new.spare c.make-id.result c.read_new.ensures.read sound c.in_ok-spare.ensures.new
    c.make-id.ensures.made c.in-Err.ensures.err c.undo.ensures)

pub returns-clause-kept : goal.returns-clause-kept
returns-clause-kept c =
    let sound = subst (λ texts. IsSoundEdit texts (change_of c.args.edit.now)) (sym c.read_new.ensures.texts) c.requires.sound in
    kept_same c.args.slots.now c.forget-in-Err.new.slots c.requires.kept c.forget-in-Err.ensures.read
    (c.forget-in-Err.ensures.slots
    ∙ (edit_undone c.read_new.new.slots c.make-id.new.slots c.rebuild.new.slots c.undo.new.slots
    (change_of c.args.edit.now) c.in_ok-spare.spare c.make-id.new.spare c.make-id.result c.read_new.ensures.read sound c.in_ok-spare.ensures.new
    c.make-id.ensures.made c.in-Err.ensures.err c.undo.ensures
    ∙ c.read_new.ensures.slots))

pub returns-clause-ruled : goal.returns-clause-ruled
returns-clause-ruled c =
    let sound = subst (λ texts. IsSoundEdit texts (change_of c.args.edit.now)) (sym c.read_new.ensures.texts) c.requires.sound in
    let same = c.forget-in-Err.ensures.slots
    ∙ (edit_undone c.read_new.new.slots c.make-id.new.slots c.rebuild.new.slots c.undo.new.slots
    (change_of c.args.edit.now) c.in_ok-spare.spare c.make-id.new.spare c.make-id.result c.read_new.ensures.read sound c.in_ok-spare.ensures.new
    c.make-id.ensures.made c.in-Err.ensures.err c.undo.ensures
    ∙ c.read_new.ensures.slots) in
    subst (EachSlot (HasRule c.args.rule)) (sym same) c.requires.ruled

pub returns-clause-err : goal.returns-clause-err
returns-clause-err c =
    let sound = subst (λ texts. IsSoundEdit texts (change_of c.args.edit.now)) (sym c.read_new.ensures.texts) c.requires.sound in
    texts_back c.args.slots.now c.forget-in-Err.new.slots
    (c.forget-in-Err.ensures.slots
    ∙ (edit_undone c.read_new.new.slots c.make-id.new.slots c.rebuild.new.slots c.undo.new.slots
    (change_of c.args.edit.now) c.in_ok-spare.spare c.make-id.new.spare c.make-id.result c.read_new.ensures.read sound c.in_ok-spare.ensures.new
    c.make-id.ensures.made c.in-Err.ensures.err c.undo.ensures
    ∙ c.read_new.ensures.slots))

pub returns-in_err-spare-clause-kept : goal.returns-in_err-spare-clause-kept
returns-in_err-spare-clause-kept c = kept_same c.args.slots.now c.read_new.new.slots c.requires.kept c.read_new.ensures.read c.read_new.ensures.slots

pub returns-in_err-spare-clause-ruled : goal.returns-in_err-spare-clause-ruled
returns-in_err-spare-clause-ruled c = subst (EachSlot (HasRule c.args.rule)) (sym c.read_new.ensures.slots) c.requires.ruled
