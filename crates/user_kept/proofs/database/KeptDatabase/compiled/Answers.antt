use Rattle.std.proofs.Common.{◌≡◌, Err, List, ℕ, ap, subst}
use Rattle.user_values.specs.Limit.{IsOverLimitAt}
use Rattle.user_values.specs.declared.fault.ValuesError.TheVariants.{TooManyNames}
use Rattle.user_kept.proofs.database.KeptDatabase.compiled.Goals as goal

pub returns-in-Err-clause-too_many : goal.returns-in-Err-clause-too_many
returns-in-Err-clause-too_many c = λ at e.
    let same : c.in-Err.error ≡ TooManyNames at = cc in
    subst (λ (texts : List (List ℕ)). IsOverLimitAt texts at) c.self.view_is (c.in-Err.ensures.too_many at (ap (λ x. Err x) same))

pub returns-in-Ok-clause-too_many : goal.returns-in-Ok-clause-too_many
returns-in-Ok-clause-too_many c = λ place e.
    subst (λ (texts : List (List ℕ)). IsOverLimitAt texts place) c.self.view_is (c.state_by.ensures.too_many place e)

pub returns-in-Some-clause-too_many : goal.returns-in-Some-clause-too_many
returns-in-Some-clause-too_many c = λ place e.
    subst (λ (texts : List (List ℕ)). IsOverLimitAt texts place) c.self.view_is (c.state_by-in-Some.ensures.too_many place e)
