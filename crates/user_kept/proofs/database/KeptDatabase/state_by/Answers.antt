use Rattle.std.proofs.Common.{◌≡◌, ◌<◌, IfOk, IsErrOf, List, Some, length, slice_get, subst, sym, ℕ}
use Rattle.user_values.specs.Limit.{IsOverLimitAt}
use Rattle.user_values.specs.declared.fault.ValuesError.TheVariants.{TooManyNames}
use Rattle.user_compiling.specs.Entries.{IsStateOf, state_seen}
use Rattle.user_kept.proofs.database.KeptDatabase.state_by.Goals as goal

pub state_at-state-requires : goal.state_at-state-requires
state_at-state-requires c = subst (λ (texts : List (List ℕ)). c.args.at < length texts) (sym c.self.view_is) c.requires.within

pub returns-clause-state : goal.returns-clause-state
returns-clause-state c =
    subst (λ (texts : List (List ℕ)). IfOk c.state_at-state.result
    (λ state. (text : List ℕ) → slice_get texts c.args.at ≡ Some text → IsStateOf texts text (state_seen state))) c.self.view_is c.state_at-state.ensures.state

pub returns-clause-too_many : goal.returns-clause-too_many
returns-clause-too_many c =
    subst (λ (texts : List (List ℕ)). (place : ℕ) → IsErrOf c.state_at-state.result (TooManyNames place) → IsOverLimitAt texts place) c.self.view_is
    c.state_at-state.ensures.too_many
