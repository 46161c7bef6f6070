use Rattle.std.proofs.Common.{◌≡◌, ◌*◌, ap, arith}
use Rattle.ti_layout.specs.Layout.{width}
use Rattle.ti_compiled.proofs.NumberPlaces.{numbers_end}
use Rattle.ti_compiled.proofs.NumberChange.{numbers_changed}
use Rattle.ti_compiled.proofs.numbers.change_numbers.Goals as goal

pub resize_part-requires-clause-within : goal.resize_part-requires-clause-within
resize_part-requires-clause-within c =
    let h = c.args.old.now in
    let size : c.width.result * h.numbers ≡ width h.format * h.numbers = ap (λ x. x * h.numbers) c.width.ensures.value in
    let place = c.numbers_offset-begin.ensures in
    let end = numbers_end c.args.bytes.now.items c.requires.image h c.requires.old in
    omega arith

pub put_numbers-requires-clause-within : goal.put_numbers-requires-clause-within
put_numbers-requires-clause-within c =
    let h = c.args.old.now in
    let k = c.args.new.now in
    let size : c.width.result * h.numbers ≡ width h.format * h.numbers = ap (λ x. x * h.numbers) c.width.ensures.value in
    let wanted : c.width-2.result * k.numbers ≡ width k.format * k.numbers = ap (λ x. x * k.numbers) c.width-2.ensures.value in
    let place = c.numbers_offset-begin.ensures in
    let end = numbers_end c.args.bytes.now.items c.requires.image h c.requires.old in
    let len = c.resize_part.ensures.len in
    omega arith

pub write_header-requires : goal.write_header-requires
write_header-requires c =
    let h = c.args.old.now in
    let size : c.width.result * h.numbers ≡ width h.format * h.numbers = ap (λ x. x * h.numbers) c.width.ensures.value in
    let end = numbers_end c.args.bytes.now.items c.requires.image h c.requires.old in
    let len = c.resize_part.ensures.len in
    let same = c.put_numbers.ensures.len in
    omega arith

pub returns : goal.returns
returns c = λ i n within has all small.
    let h = c.args.old.now in
    let k = c.args.new.now in
    numbers_changed c.args.bytes.now.items c.requires.image h c.requires.old i within n k has c.resize_part.new.bytes.items c.put_numbers.new.bytes.items
    c.write_header.new.bytes.items c.args.values.now
    c.numbers_offset-begin.result (c.width.result * h.numbers) (c.width-2.result * k.numbers) 0 c.numbers_offset-begin.ensures
    (ap (λ x. x * h.numbers) c.width.ensures.value) (ap (λ x. x * k.numbers) c.width-2.ensures.value)
    all small c.resize_part.ensures.part c.put_numbers.ensures.part c.write_header.ensures.header
