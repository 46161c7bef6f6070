use Rattle.std.proofs.Common.{Ok, Err, refl}
use Rattle.everyday_sources.proofs.Taking.{if_ok_weaker}
use Rattle.everyday_sources.proofs.used.take.Goals as goal

pub returns-in-Listing-clause-taken : goal.returns-in-Listing-clause-taken
returns-in-Listing-clause-taken c =
    let gives = rw (c.as_slice.ensures.value, c.in-Listing.is) at c.in_ok-listing.ensures in
    if_ok_weaker c.put_in.result (λ problem puts.
    rw c.in-Some.is (Ok c.in-Listing.listing.items, gives, rw c.as_slice-in-Listing.ensures.value at puts)) c.put_in.ensures.taken

pub returns-clause-taken : goal.returns-clause-taken
returns-clause-taken c =
    let gives = rw (c.as_slice.ensures.value, c.in-Refused.is) at c.in_ok-listing.ensures in
    rw c.in-Some.is (Err c.in-Refused.cause, gives, (refl, refl))
