use Rattle.std.proofs.Common.{ap, subst, sym, ◌∙◌}
use Rattle.base_meaning.specs.Edits.{IsSoundEdit, change_of, list_after}
use Rattle.ti_base.specs.inside.Database.{EachSlot, HasRule}
use Rattle.ti_base.proofs.growing.change_sound.Goals as goal

pub make-requires-clause-sound : goal.make-requires-clause-sound
make-requires-clause-sound c = subst (λ texts. IsSoundEdit texts (change_of c.args.edit.now)) (sym c.read_new.ensures.texts) c.requires.sound

pub returns-clause-ok : goal.returns-clause-ok
returns-clause-ok c =
    c.forget.ensures.texts
    ∙ (c.make.ensures.edited.texts ∙ ap (λ texts. list_after texts (change_of c.args.edit.now)) c.read_new.ensures.texts)

pub returns-clause-ruled : goal.returns-clause-ruled
returns-clause-ruled c =
    let ruled = subst (EachSlot (HasRule c.args.rule)) (sym c.read_new.ensures.slots) c.requires.ruled in
    let made = c.make.ensures.ruled c.args.rule ruled c.in_ok-spare.ensures.ruled in
    subst (EachSlot (HasRule c.args.rule)) (sym c.forget.ensures.slots) made.ruled

pub returns-in_err-spare-clause-ruled : goal.returns-in_err-spare-clause-ruled
returns-in_err-spare-clause-ruled c = subst (EachSlot (HasRule c.args.rule)) (sym c.read_new.ensures.slots) c.requires.ruled
