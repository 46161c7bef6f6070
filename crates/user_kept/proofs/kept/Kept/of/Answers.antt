use Rattle.std.proofs.Common.{◌≡◌, Err, ap}
use Rattle.user_values.specs.declared.fault.ValuesError.TheVariants.{TooManyNames}
use Rattle.user_kept.proofs.kept.Kept.of.Goals as goal

pub returns-in-Err-find_all-clause-too_many : goal.returns-in-Err-find_all-clause-too_many
returns-in-Err-find_all-clause-too_many c = λ at e.
    let same : c.in-Err-find_all.error ≡ TooManyNames at = cc in
    c.in-Err-find_all.ensures.too_many at (ap (λ x. Err x) same)

pub returns-in-Err-clause-too_many : goal.returns-in-Err-clause-too_many
returns-in-Err-clause-too_many c = λ at e.
    let same : c.in-Err.error ≡ TooManyNames at = cc in
    c.in-Err.ensures.too_many at (ap (λ x. Err x) same)
