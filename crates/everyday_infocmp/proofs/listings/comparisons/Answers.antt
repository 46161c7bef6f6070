-- each step writes the comparison with one of the others
use Rattle.user_listing.specs.Comparison.{extended_comparison}
use Rattle.user_listing.specs.Entries.{extended_seen}
use Rattle.everyday_infocmp.proofs.Printing.{all_in_turn, in_turn}
use Rattle.everyday_infocmp.proofs.listings.comparisons.Goals as goal

pub loop-other-preserved : goal.loop-other-preserved
loop-other-preserved c =
    in_turn (λ e. extended_seen e) (λ other. extended_comparison (extended_seen c.args.first.now) other c.args.mode c.args.order) c.args.others.now
    c.loop-other.other-index c.other-item.result c.loop-other.text.items _ _ _
    c.loop-other-test.true c.other-item.is (c.in_ok-comparison.ensures)
    (rw (← c.as_slice.ensures.value) (c.in_ok-extend_from_slice.ensures.items)) c.loop-other.invariant

pub returns : goal.returns
returns c = all_in_turn (λ e. extended_seen e) (λ other. extended_comparison (extended_seen c.args.first.now) other c.args.mode c.args.order)
    c.args.others.now c.loop-other.other-index c.loop-other.text.items _ c.loop-other-test.false c.loop-other.invariant
