use Rattle.std.proofs.Common.{Some, sym, subst}
use Rattle.ti_layout.specs.declared.values.Value.{Value}
use Rattle.ti_layout.specs.Laws.{without_cancel}
use Rattle.ti_layout.specs.Values.{Agrees, content_of, content_text}
use Rattle.ti_compiled.specs.Changes.{SetsContent}
use Rattle.ti_compiled.proofs.image.Image.give.Goals as goal

pub set_flag-requires : goal.set_flag-requires
set_flag-requires c = record { kind = subst (λ (v : Value). Agrees c.args.cap (content_of v)) c.in-True.is c.requires.agrees }

pub set_number-requires-clause-kind : goal.set_number-requires-clause-kind
set_number-requires-clause-kind c = (subst (λ (v : Value). Agrees c.args.cap (content_of v)) c.in-Number.is c.requires.agrees).0

pub set_number-requires-clause-fits : goal.set_number-requires-clause-fits
set_number-requires-clause-fits c = (subst (λ (v : Value). Agrees c.args.cap (content_of v)) c.in-Number.is c.requires.agrees).1

pub set_text-requires-clause-kind : goal.set_text-requires-clause-kind
set_text-requires-clause-kind c = (subst (λ (v : Value). Agrees c.args.cap (content_of v)) c.in-Text.is c.requires.agrees).0

pub set_text-requires-clause-no_nul : goal.set_text-requires-clause-no_nul
set_text-requires-clause-no_nul c = rw c.as_slice.ensures.value (subst (λ (v : Value). Agrees c.args.cap (content_of v)) c.in-Text.is c.requires.agrees).1

pub returns-in-True : goal.returns-in-True
returns-in-True c = subst (λ (v : Value). SetsContent c.args.self.now c.set_flag.new.self c.args.cap
    (without_cancel (Some (content_of v))) c.set_flag.result) (sym c.in-True.is) c.set_flag.ensures

pub returns-in-Number : goal.returns-in-Number
returns-in-Number c = subst (λ (v : Value). SetsContent c.args.self.now c.set_number.new.self c.args.cap
    (without_cancel (Some (content_of v))) c.set_number.result) (sym c.in-Number.is) c.set_number.ensures

pub returns-in-Text : goal.returns-in-Text
returns-in-Text c =
    let given = subst (λ t. SetsContent c.args.self.now c.set_text.new.self c.args.cap (Some (content_text t)) c.set_text.result) c.as_slice.ensures.value
    c.set_text.ensures in
    subst (λ (v : Value). SetsContent c.args.self.now c.set_text.new.self c.args.cap (without_cancel (Some (content_of v))) c.set_text.result)
    (sym c.in-Text.is) given

pub returns-in-Cancelled : goal.returns-in-Cancelled
returns-in-Cancelled c = subst (λ (v : Value). SetsContent c.args.self.now c.take_away.new.self c.args.cap
    (without_cancel (Some (content_of v))) c.take_away.result) (sym c.in-Cancelled.is) c.take_away.ensures
