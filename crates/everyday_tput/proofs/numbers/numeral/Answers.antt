use Rattle.std.proofs.Common.{◌≡◌, ◌∙◌, ◌<◌, ℕ, ◌&&◌, Bool, get_or, ap, arith, rules}
use Rattle.std.specs.Prelude.{nat_lt}
use Rattle.std.specs.Char.{digit_value}
use Rattle.std.proofs.lemmas.Bool.{lt-ltb}
use Rattle.std.proofs.lemmas.List.Folds.{list_all_more}
use Rattle.everyday_tput.proofs.Digits.{one_more}
use Rattle.everyday_tput.proofs.numbers.numeral.Goals as goal

pub loop-byte-preserved : goal.loop-byte-preserved
loop-byte-preserved c =
    let xs = c.args.digits.now in
    let i = c.loop-byte.byte-index in
    let below : digit_value (get_or xs i 0) < c.args.base = search rules in
    let is_digit : c.in-Some.digit ≡ digit_value (get_or xs i 0) = search rules in
    record {
      all = list_all_more (λ (digit : ℕ). nat_lt (digit_value digit) c.args.base) xs i 0 c.loop-byte-test.true
          ∙ ap (λ (b : Bool). b && nat_lt (digit_value (get_or xs i 0)) c.args.base) c.loop-byte.invariant.all ∙ lt-ltb _ _ below;
      value = one_more 18446744073709551615 c.args.base xs i c.loop-byte.number c.saturating_mul.result c.in-Some.digit c.from-in-Some-2.result
          c.from-in-Some.result c.saturating_add-number.result (omega (arith, c.requires.lower)) c.loop-byte-test.true c.loop-byte.invariant.value
          c.saturating_mul.ensures c.from-in-Some.ensures c.from-in-Some-2.ensures is_digit c.saturating_add-number.ensures;
    }
