-- the value is written over the one there, or put into the gap
use Rattle.std.proofs.Common.{◌≡◌, true, subst}
use Rattle.std.specs.Option.{is_some}
use Rattle.ti_layout.specs.inside.Values.{IsAt, IsGapFor}
use Rattle.ti_layout.specs.Values.{entries_of}
use Rattle.ti_layout.proofs.SortedEntries.{contents_nowhere}
use Rattle.ti_layout.proofs.Searched.{nowhere, sorted-written, sets-written, sorted-placed, sets-placed}
use Rattle.ti_layout.proofs.values.put.Goals as goal

pub returns-in-Ok-clause-sorted : goal.returns-in-Ok-clause-sorted
returns-in-Ok-clause-sorted c =
    let at = subst (λ xs. IsAt (entries_of xs) c.args.cap c.in-Ok.at) c.deref.ensures.value c.in-Ok.ensures.found in
    sorted-written _ c.requires.sorted _ _ _ c.search.ensures.valid c.requires.agrees at

pub returns-in-Ok-clause-ok : goal.returns-in-Ok-clause-ok
returns-in-Ok-clause-ok c =
    let at = subst (λ xs. IsAt (entries_of xs) c.args.cap c.in-Ok.at) c.deref.ensures.value c.in-Ok.ensures.found in
    sets-written _ c.requires.sorted _ _ _ c.search.ensures.valid c.requires.agrees at

pub returns-in_ok-insert-in-Err-clause-sorted : goal.returns-in_ok-insert-in-Err-clause-sorted
returns-in_ok-insert-in-Err-clause-sorted c =
    let gap = subst (λ xs. IsGapFor (entries_of xs) c.args.cap c.in-Err.at) c.deref.ensures.value c.in-Err.ensures.absent in
    rw c.in_ok-insert-in-Err.ensures.items (sorted-placed _ c.requires.sorted _ _ _ c.search.ensures.valid c.requires.agrees gap)

pub returns-in_ok-insert-in-Err-clause-ok : goal.returns-in_ok-insert-in-Err-clause-ok
returns-in_ok-insert-in-Err-clause-ok c =
    let gap = subst (λ xs. IsGapFor (entries_of xs) c.args.cap c.in-Err.at) c.deref.ensures.value c.in-Err.ensures.absent in
    rw c.in_ok-insert-in-Err.ensures.items (sets-placed _ c.requires.sorted _ _ _ c.search.ensures.valid c.requires.agrees gap)

pub returns-in_err-insert-in-Err-clause-in_place : goal.returns-in_err-insert-in-Err-clause-in_place
returns-in_err-insert-in-Err-clause-in_place c found =
    let gap = subst (λ xs. IsGapFor (entries_of xs) c.args.cap c.in-Err.at) c.deref.ensures.value c.in-Err.ensures.absent in
    let never = subst (λ o. is_some o ≡ true) (contents_nowhere _ _ (nowhere _ c.requires.sorted _ _ gap)) found in
    cc
