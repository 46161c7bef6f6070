use Rattle.std.proofs.Common.{◌≡◌, List, ℕ, length, ap, refl, arith, ◌∙◌}
use Rattle.ti_layout.proofs.Below.{length-below}
use Rattle.ti_compiled.proofs.NumberChange.{number_room}
use Rattle.ti_compiled.proofs.numbers.NumberChangeChange.make.Goals as goal

pub change_numbers-requires-clause-count : goal.change_numbers-requires-clause-count
change_numbers-requires-clause-count c =
    let all : length c.args.self.now.values.now ≡ 39 = ap (λ (v : List ℕ). length v) c.requires.suits.2 ∙ length-below _ 39 in
    let fits = c.requires.new.numbers_fit in
    omega arith

pub change_numbers-requires-clause-room : goal.change_numbers-requires-clause-room
change_numbers-requires-clause-room c =
    let change = c.args.self.now in
    let fits = number_room c.args.bytes.now.items c.requires.image c.args.old.now c.requires.old change.index c.requires.suits.0 change.number
    c.args.new.now c.requires.new _ _ refl c.requires.room in
    omega arith
