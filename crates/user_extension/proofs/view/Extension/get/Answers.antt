use Rattle.std.proofs.Common.{◌≡◌, ℕ, ◌+◌, ◌-◌, ◌/◌, ◌∙◌, take, drop, ap, sym, length, arith}
use Rattle.std.specs.Option.{option_map, option_or}
use Rattle.user_extension.specs.Reading.{said}
use Rattle.ti_layout.specs.Reading.{count_in}
use Rattle.ti_layout.specs.Values.{content_seen}
use Rattle.user_extension.specs.View.{parts_of, read_rows}
use Rattle.user_extension.proofs.Named.{found_first, found_second, found_third, said_in_three}
use Rattle.user_extension.proofs.Rows.{rows_long}
use Rattle.user_extension.proofs.view.Extension.get.Goals as goal

pub get_between-requires-3-clause-within : goal.get_between-requires-3-clause-within
get_between-requires-3-clause-within c = let e = c.args.self.now in let l = rows_long e.format (parts_of e) in omega (arith, l, c.len.ensures)

pub returns-in-Some-clause-value : goal.returns-in-Some-clause-value
returns-in-Some-clause-value c =
    let e = c.args.self.now in
    let l = rows_long e.format (parts_of e) in
    let second = length e.flags.now in
    let third = second + length e.numbers.now / c.width.result in
    let n : length e.numbers.now / c.width.result ≡ count_in e.format e.numbers.now = ap (λ (k : ℕ). length e.numbers.now / k) c.width.ensures.value in
    let three = said_in_three (read_rows e) c.args.name.now second third (length (read_rows e)) (omega arith) (omega (arith, l, n, e.named)) (omega arith) in
    let name = c.args.name.now in
    let rest = option_or (said (take (third - second) (drop second (read_rows e))) name)
    (said (take (length (read_rows e) - third) (drop third (read_rows e))) name) in
    found_first (read_rows e) name (content_seen c.in-Some.flag) (said (take (second - 0) (drop 0 (read_rows e))) name) rest c.in-Some.ensures.value three

pub returns-in-Some-get_between-clause-value : goal.returns-in-Some-get_between-clause-value
returns-in-Some-get_between-clause-value c =
    let e = c.args.self.now in
    let l = rows_long e.format (parts_of e) in
    let second = length e.flags.now in
    let third = second + length e.numbers.now / c.width.result in
    let n : length e.numbers.now / c.width.result ≡ count_in e.format e.numbers.now = ap (λ (k : ℕ). length e.numbers.now / k) c.width.ensures.value in
    let three = said_in_three (read_rows e) c.args.name.now second third (length (read_rows e)) (omega arith) (omega (arith, l, n, e.named)) (omega arith) in
    let none = ap (option_map content_seen) (sym c.in_default.is) ∙ c.get_between.ensures.value in
    found_second _ _ _ _ _ none c.in-Some-get_between.ensures.value three

pub returns-clause-value : goal.returns-clause-value
returns-clause-value c =
    let e = c.args.self.now in
    let l = rows_long e.format (parts_of e) in
    let second = length e.flags.now in
    let third = second + length e.numbers.now / c.width.result in
    let n : length e.numbers.now / c.width.result ≡ count_in e.format e.numbers.now = ap (λ (k : ℕ). length e.numbers.now / k) c.width.ensures.value in
    let three = said_in_three (read_rows e) c.args.name.now second third c.len.result (omega arith) (omega (arith, l, n, e.named, c.len.ensures))
    (omega (arith, c.len.ensures)) in
    let none = ap (option_map content_seen) (sym c.in_default.is) ∙ c.get_between.ensures.value in
    let nor = ap (option_map content_seen) (sym c.in_default-get_between.is) ∙ c.get_between-2.ensures.value in
    found_third _ _ _ _ _ none nor c.get_between-3.ensures.value three
