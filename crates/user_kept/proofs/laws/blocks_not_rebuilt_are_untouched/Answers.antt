use Rattle.std.proofs.Common.{◌∙◌, List, ap, slice_get, sym, ℕ}
use Rattle.user_kept.specs.Untouched.{UntouchedBlocksSayTheSame}
use Rattle.user_kept.specs.Laws.{BlocksNotRebuiltAreUntouched}
use Rattle.user_kept.proofs.laws.blocks_not_rebuilt_are_untouched.Goals as goal

not_rebuilt : UntouchedBlocksSayTheSame → BlocksNotRebuiltAreUntouched
not_rebuilt law texts next change rebuilt steps step made at text stands off =
    law texts change at text step.0.in_place (ap (λ (xs : List (List ℕ)). slice_get xs at) (sym step.1) ∙ stands)
    (λ d. off ((made.dependents.dependents at).1 d))

pub returns : goal.returns
returns c = not_rebuilt c.untouched_blocks_say_the_same.ensures
