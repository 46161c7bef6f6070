use Rattle.std.proofs.Common.{◌≡◌, Err, List, ℕ, ap, subst}
use Rattle.user_values.specs.Limit.{IsOverLimitAt}
use Rattle.user_values.specs.declared.fault.ValuesError.TheVariants.{TooManyNames}
use Rattle.user_kept.proofs.database.KeptDatabase.user_faults.Goals as goal

pub returns-in-Err-clause-too_many : goal.returns-in-Err-clause-too_many
returns-in-Err-clause-too_many c = λ at e.
    let same : c.in-Err.error ≡ TooManyNames at = cc in
    subst (λ (texts : List (List ℕ)). IsOverLimitAt texts at) c.self.view_is (c.in-Err.ensures.too_many at (ap (λ x. Err x) same))
