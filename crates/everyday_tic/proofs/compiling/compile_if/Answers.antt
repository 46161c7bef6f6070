use Rattle.std.proofs.Common.{◌≡◌, Err, ap}
use Rattle.user_values.specs.declared.fault.ValuesError.TheVariants.{TooManyNames}
use Rattle.everyday_tic.proofs.Becoming.{as_many}
use Rattle.everyday_tic.proofs.compiling.compile_if.Goals as goal

pub returns-in-Ok-clause-as_many : goal.returns-in-Ok-clause-as_many
returns-in-Ok-clause-as_many c = as_many c.args.database.now.rule c.args.database.now.texts c.in-Ok.compiled.items c.in-Ok.ensures.states

pub returns-in-Err-clause-too_many : goal.returns-in-Err-clause-too_many
returns-in-Err-clause-too_many c = λ at e.
    let same : c.in-Err.error ≡ TooManyNames at = cc in
    c.in-Err.ensures.too_many at (ap (λ x. Err x) same)
