-- each step writes the listing of one of the others
use Rattle.user_listing.specs.Entries.{Extended, extended_seen}
use Rattle.user_listing.specs.Listing.{extended_listing}
use Rattle.everyday_infocmp.proofs.Printing.{all_in_turn, in_turn}
use Rattle.everyday_infocmp.proofs.listings.listings.Goals as goal

pub loop-entry-preserved : goal.loop-entry-preserved
loop-entry-preserved c =
    in_turn (λ e. extended_seen e) (λ (e : Extended). extended_listing e c.args.layout.now) c.args.others.now
    c.loop-entry.entry-index c.entry-item.result c.loop-entry.text.items _ _ _
    c.loop-entry-test.true c.entry-item.is (c.in_ok-listing.ensures)
    (rw (← c.as_slice.ensures.value) (c.in_ok-extend_from_slice.ensures.items)) c.loop-entry.invariant

pub returns : goal.returns
returns c = all_in_turn (λ e. extended_seen e) (λ (e : Extended). extended_listing e c.args.layout.now) c.args.others.now
    c.loop-entry.entry-index c.loop-entry.text.items _ c.loop-entry-test.false c.loop-entry.invariant
