use Rattle.std.proofs.Common.{rules, sym, ap, arith}
use Rattle.std.specs.Ordering.{is_lt}
use Rattle.user_extension.specs.inside.Keys.{IsKey}
use Rattle.user_extension.proofs.NameKeys.{rises_by_key}
use Rattle.user_extension.proofs.keys.rises.Goals as goal

pub returns-in-Some-Some : goal.returns-in-Some-Some
returns-in-Some-Some c =
    let low : IsKey c.in-Some-Some.low c.args.previous.now = search rules in
    let high : IsKey c.in-Some-Some.high c.args.name.now = search rules in
    let test = c.if-low-high.true in
    sym (ap is_lt (rises_by_key 8 c.args.previous.now c.args.name.now low.1 high.1 (omega (arith, low.0, high.0, test))))
