use Rattle.std.proofs.Common.{◌/◌, ◌≤◌, length, arith, subst}
use Rattle.ti_layout.specs.Reading.{count_in}
use Rattle.ti_layout.proofs.ViewLemmas.{number_past, number_plain, number_void, number_place}
use Rattle.ti_layout.proofs.view.View.number.Goals as goal

pub returns-then-index-self : goal.returns-then-index-self
returns-then-index-self c =
    let v = c.args.self.now in
    let e = c.width-width.ensures.value in
    let past : count_in v.format v.numbers.now ≤ c.args.cap.index = subst (λ w. length v.numbers.now / w ≤ c.args.cap.index) e (omega arith) in
    number_past v.format v.flags.now v.numbers.now _ v.strings.now c.args.cap c.requires past

pub returns-then-number-first_negative : goal.returns-then-number-first_negative
returns-then-number-first_negative c =
    let v = c.args.self.now in
    let p = number_place v.format v.numbers.now c.width-width.result c.args.cap.index _ _ _ c.width-width.ensures.value c.index.ensures.value
    c.if-index-self.false c.index-2.ensures.value c.number-number.ensures.value in
    number_plain v.format v.flags.now v.numbers.now _ v.strings.now c.args.cap c.requires _ p.0 p.1 (omega arith)

pub returns-else-number-first_negative : goal.returns-else-number-first_negative
returns-else-number-first_negative c =
    let v = c.args.self.now in
    let p = number_place v.format v.numbers.now c.width-width.result c.args.cap.index _ _ _ c.width-width.ensures.value c.index.ensures.value
    c.if-index-self.false c.index-2.ensures.value c.number-number.ensures.value in
    number_void v.format v.flags.now v.numbers.now _ v.strings.now c.args.cap c.requires _ p.0 p.1 (omega arith)
