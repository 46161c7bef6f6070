use Rattle.std.proofs.Common.{◌+◌, ◌∙◌, sym, length}
use Rattle.ti_layout.specs.Reading.{count_in}
use Rattle.user_extension.specs.Reading.{value_in}
use Rattle.user_extension.specs.View.{parts_of}
use Rattle.user_extension.proofs.Between.{none_between, one_between}
use Rattle.user_extension.proofs.Values.{lent_sound, value_sound}
use Rattle.user_extension.proofs.view.Extension.get_between.Goals as goal

pub returns-in-Some-clause-value : goal.returns-in-Some-clause-value
returns-in-Some-clause-value c =
    let e = c.args.self.now in
    let f = c.in-Some.ensures.found in
    c.value_at.ensures
    ∙ sym (one_between e.format (parts_of e) e.tail.now e.rest c.args.low c.args.high c.requires.within (length e.flags.now)
    (length e.flags.now + count_in e.format e.numbers.now) e.rise c.requires.kind
    c.args.name.now c.in-Some.place f.0 f.1 f.2)

pub returns-in-Some-clause-sound : goal.returns-in-Some-clause-sound
returns-in-Some-clause-sound c =
    let e = c.args.self.now in
    lent_sound c.value_at.result (value_in e.format (parts_of e) c.in-Some.place) c.value_at.ensures (value_sound e.format (parts_of e) c.in-Some.place)

pub returns-in-None-clause-value : goal.returns-in-None-clause-value
returns-in-None-clause-value c =
    let e = c.args.self.now in
    sym (none_between e.format (parts_of e) e.tail.now e.rest c.args.low c.args.high c.requires.within c.args.name.now c.in-None.ensures.none)
