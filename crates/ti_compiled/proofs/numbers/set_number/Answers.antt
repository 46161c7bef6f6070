use Rattle.std.proofs.Common.{◌≡◌, List, ℕ, subst}
use Rattle.ti_layout.specs.Image.{below}
use Rattle.ti_compiled.specs.inside.Changes.{wide_value, with_number}
use Rattle.ti_compiled.proofs.numbers.set_number.Goals as goal

pub make_change-requires-clause-suits : goal.make_change-requires-clause-suits
make_change-requires-clause-suits c =
    let all = subst (λ (b : List ℕ). c.numbers_with.result ≡ below (wide_value (with_number b c.args.index c.args.number)) 39) c.deref-2.ensures.value
    c.numbers_with.ensures in
    (c.requires.index, c.requires.fits, all)
