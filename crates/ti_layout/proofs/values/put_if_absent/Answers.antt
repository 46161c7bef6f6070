-- what is at the index remains, and a gap takes the value
use Rattle.std.proofs.Common.{◌≡◌, true, subst}
use Rattle.std.specs.Option.{is_some}
use Rattle.ti_layout.specs.inside.Values.{IsAt, IsGapFor}
use Rattle.ti_layout.specs.Values.{content_of, entries_of}
use Rattle.ti_layout.proofs.Absent.{added_in_gap, added_behind}
use Rattle.ti_layout.proofs.SortedEntries.{contents_nowhere}
use Rattle.ti_layout.proofs.Searched.{nowhere, content_here, sorted-placed, sets-placed}
use Rattle.ti_layout.proofs.values.put_if_absent.Goals as goal

pub returns-in-Ok-clause-ok : goal.returns-in-Ok-clause-ok
returns-in-Ok-clause-ok c =
    let at = subst (λ xs. IsAt (entries_of xs) c.args.cap c.in-Ok.field-0) c.deref.ensures.value c.in-Ok.ensures.found in
    added_behind _ _ _ (content_of c.args.value) (content_here _ c.requires.sorted _ _ (c.args.cap, c.args.value) at)

pub returns-in_ok-insert-in-Err-clause-sorted : goal.returns-in_ok-insert-in-Err-clause-sorted
returns-in_ok-insert-in-Err-clause-sorted c =
    let gap = subst (λ xs. IsGapFor (entries_of xs) c.args.cap c.in-Err.at) c.deref.ensures.value c.in-Err.ensures.absent in
    rw c.in_ok-insert-in-Err.ensures.items (sorted-placed _ c.requires.sorted _ _ _ c.search.ensures.valid c.requires.agrees gap)

pub returns-in_ok-insert-in-Err-clause-ok : goal.returns-in_ok-insert-in-Err-clause-ok
returns-in_ok-insert-in-Err-clause-ok c =
    let gap = subst (λ xs. IsGapFor (entries_of xs) c.args.cap c.in-Err.at) c.deref.ensures.value c.in-Err.ensures.absent in
    rw c.in_ok-insert-in-Err.ensures.items
    (added_in_gap _ _ _ _ (contents_nowhere _ _ (nowhere _ c.requires.sorted _ _ gap))
    (sets-placed _ c.requires.sorted _ _ _ c.search.ensures.valid c.requires.agrees gap))

pub returns-in_err-insert-in-Err-clause-in_place : goal.returns-in_err-insert-in-Err-clause-in_place
returns-in_err-insert-in-Err-clause-in_place c found =
    let gap = subst (λ xs. IsGapFor (entries_of xs) c.args.cap c.in-Err.at) c.deref.ensures.value c.in-Err.ensures.absent in
    let never = subst (λ o. is_some o ≡ true) (contents_nowhere _ _ (nowhere _ c.requires.sorted _ _ gap)) found in
    cc
