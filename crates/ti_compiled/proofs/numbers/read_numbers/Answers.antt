use Rattle.std.proofs.Common.{◌∙◌, arith}
use Rattle.ti_compiled.proofs.NumberPlaces.{read_start, read_end, read_plain, read_void, width_under}
use Rattle.ti_compiled.proofs.numbers.read_numbers.Goals as goal
use Rattle.ti_compiled.proofs.numbers.read_numbers.Goals.{then-number-first_negative, else-number-first_negative}

pub loop-at-init : goal.loop-at-init
loop-at-init c = read_start c.args.bytes.now c.requires.image c.args.header.now c.requires.sizes

pub number-number-requires : goal.number-number-requires
number-number-requires c =
    width_under c.args.bytes.now c.requires.image c.args.header.now c.requires.sizes c.numbers_offset-begin.result c.width-width.result c.loop-at.at
    c.numbers_offset-begin.ensures c.width-width.ensures.value c.loop-at-test.true

pub loop-at-preserved : goal.loop-at-preserved
loop-at-preserved c =
    let b = c.args.bytes.now in
    let h = c.args.header.now in
    elim c.if-number-first_negative.branch [
      | then-number-first_negative w ↦ w.values-is
          ∙ read_plain b c.requires.image h c.requires.sizes c.loop-at.values c.numbers_offset-begin.result c.width-width.result c.loop-at.at
          c.number-number.result
          c.numbers_offset-begin.ensures c.width-width.ensures.value c.loop-at-test.true c.number-number.ensures.value c.loop-at.invariant
          (let n = c.first_negative.ensures in let t = w.if-number-first_negative.true in omega arith)
      | else-number-first_negative w ↦ w.values-is
          ∙ read_void b c.requires.image h c.requires.sizes c.loop-at.values c.numbers_offset-begin.result c.width-width.result c.loop-at.at
          c.number-number.result
          c.numbers_offset-begin.ensures c.width-width.ensures.value c.loop-at-test.true c.number-number.ensures.value c.loop-at.invariant
          (let n = c.first_negative.ensures in let t = w.if-number-first_negative.false in omega arith)
    ]

pub returns : goal.returns
returns c = read_end c.args.bytes.now c.requires.image c.args.header.now c.requires.sizes c.loop-at.values c.loop-at.at c.loop-at-test.false c.loop-at.invariant
