-- each step writes the listing of one of the others
use Rattle.ti_layout.specs.View.{Entry, entry_seen}
use Rattle.ti_list.specs.Listing.{listing}
use Rattle.ti_tools.proofs.Printing.{all_in_turn, in_turn}
use Rattle.ti_tools.proofs.listings.listings_text.Goals as goal

pub loop-view-preserved : goal.loop-view-preserved
loop-view-preserved c =
    in_turn (λ view. entry_seen view) (λ (entry : Entry). listing entry.names entry.contents c.args.layout.now) c.in-Some.others.now
    c.loop-view.view-index c.view-item.result c.loop-view.text.items _ _ _
    c.loop-view-test.true c.view-item.is (c.in_ok-listing.ensures)
    (rw (← c.as_slice.ensures.value) (c.in_ok-extend_from_slice.ensures.items)) c.loop-view.invariant

pub returns : goal.returns
returns c = all_in_turn (λ view. entry_seen view) (λ (entry : Entry). listing entry.names entry.contents c.args.layout.now) c.in-Some.others.now
    c.loop-view.view-index c.loop-view.text.items _ c.loop-view-test.false c.loop-view.invariant
