-- what is at the index is taken away, and a gap has nothing
use Rattle.std.proofs.Common.{subst}
use Rattle.ti_layout.specs.inside.Values.{IsAt, IsGapFor}
use Rattle.ti_layout.specs.Values.{entries_of}
use Rattle.ti_layout.proofs.Searched.{sorted-taken, sets-taken, sets-nothing}
use Rattle.ti_layout.proofs.values.take_out.Goals as goal

pub returns-in-Ok-clause-sorted : goal.returns-in-Ok-clause-sorted
returns-in-Ok-clause-sorted c =
    let at = subst (λ xs. IsAt (entries_of xs) c.args.cap c.in-Ok.at) c.deref.ensures.value c.in-Ok.ensures.found in
    rw c.remove.ensures.items (sorted-taken _ c.requires _ _ at)

pub returns-in-Ok-clause-gone : goal.returns-in-Ok-clause-gone
returns-in-Ok-clause-gone c =
    let at = subst (λ xs. IsAt (entries_of xs) c.args.cap c.in-Ok.at) c.deref.ensures.value c.in-Ok.ensures.found in
    rw c.remove.ensures.items (sets-taken _ c.requires _ _ at)

pub returns-in_default-clause-gone : goal.returns-in_default-clause-gone
returns-in_default-clause-gone c =
    let gap = subst (λ xs. IsGapFor (entries_of xs) c.args.cap c.in_default.field-0) c.deref.ensures.value c.in_default.ensures.absent in
    sets-nothing _ c.requires _ _ gap
