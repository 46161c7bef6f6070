use Rattle.std.proofs.Common.{◌≡◌, ◌/◌, ℕ, length, ap, arith}
use Rattle.ti_layout.specs.Reading.{count_in}
use Rattle.user_extension.proofs.view.Extension.value_at.Goals as goal

pub text_at-requires-clause-within : goal.text_at-requires-clause-within
text_at-requires-clause-within c =
    let e = c.args.self.now in
    let n : length e.numbers.now / c.width.result ≡ count_in e.format e.numbers.now = ap (λ (k : ℕ). length e.numbers.now / k) c.width.ensures.value in
    omega (arith, n, c.requires, e.named, c.if-place-numbers.false)
