use Rattle.std.proofs.Common.{arith, rules, ◌≡◌, drop, ◌<◌, ◌++◌, map, ap, ◌∙◌}
use Rattle.std.proofs.lemmas.List.{append-nil, drop_all}
use Rattle.std.specs.Fmt.{digit_glyph}
use Rattle.std.specs.Int.Digits.{digits_of}
use Rattle.ti_printing.proofs.Digits.{digits_fit, digits_of-some, length-digits_of-next, plain_numeral, written-next}
use Rattle.ti_printing.proofs.printf.write_digits.Goals as goal

pub loop-rest-init : goal.loop-rest-init
loop-rest-init c =
    let digits = map (digit_glyph c.args.upper) (digits_of c.args.base c.args.number) in
    record {
      room = digits_fit c.args.base c.args.number (omega arith) (omega arith);
      bound = omega arith;
      written = ap (λ bytes. digits ++ bytes) (drop_all 11 c.args.buffer.now (omega arith)) ∙ append-nil digits;
    }

pub loop-rest-preserved : goal.loop-rest-preserved
loop-rest-preserved c =
    let loop = c.loop-rest in
    let some = digits_of-some c.args.base loop.rest (omega arith) (omega arith) in
    let more : 0 < loop.at = omega (arith, some) in
    record {
      room = length-digits_of-next c.args.base loop.rest loop.at (omega arith) (omega arith) loop.invariant.room;
      bound = omega arith;
      written = written-next c.args.base loop.rest loop.at c.args.upper loop.buffer _ c.glyph.result (omega arith) (omega arith) more
          (omega arith) c.glyph.ensures loop.invariant.written;
    }

pub returns-clause-plain : goal.returns-clause-plain
returns-clause-plain c =
    let written : drop c.loop-rest.at c.loop-rest.buffer ≡ map (digit_glyph c.args.upper) (digits_of c.args.base c.args.number) = search rules in
    plain_numeral c.args.base c.args.number c.args.upper _ (omega arith) written
