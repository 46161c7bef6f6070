use Rattle.std.proofs.Common.{Option, Bor, sym, subst}
use Rattle.ti_layout.specs.declared.values.Value.{Value}
use Rattle.ti_layout.specs.Laws.{without_cancel}
use Rattle.ti_layout.specs.Values.{AgreesIfSome}
use Rattle.ti_compiled.specs.Changes.{SetsContent}
use Rattle.ti_compiled.specs.inside.Changes.{content_lent}
use Rattle.ti_compiled.proofs.image.Image.set_value.Goals as goal

pub give-requires : goal.give-requires
give-requires c = record { agrees = subst (λ (v : Option (Bor Value)). AgreesIfSome c.args.cap (content_lent v)) c.in-Some.is c.requires.agrees }

pub returns-in-Some : goal.returns-in-Some
returns-in-Some c = subst (λ (v : Option (Bor Value)). SetsContent c.args.self.now c.give.new.self c.args.cap
    (without_cancel (content_lent v)) c.give.result) (sym c.in-Some.is) c.give.ensures

pub returns-in-None : goal.returns-in-None
returns-in-None c = subst (λ (v : Option (Bor Value)). SetsContent c.args.self.now c.take_away.new.self c.args.cap
    (without_cancel (content_lent v)) c.take_away.result) (sym c.in-None.is) c.take_away.ensures
