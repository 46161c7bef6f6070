-- each step writes one of the entries
use Rattle.everyday_infocmp.specs.TermcapListings.{lines_in}
use Rattle.everyday_infocmp.proofs.Termcaps.{all_written, one_more}
use Rattle.everyday_infocmp.proofs.termcap_listings.termcaps.Goals as goal

pub loop-view-preserved : goal.loop-view-preserved
loop-view-preserved c = one_more c.args.limited c.args.all (lines_in c.args.joined c.args.layout.now) c.args.views.now c.loop-view.view-index c.view-item.result
    c.loop-view.text.items c.in_ok-one.one.items _ c.loop-view-test.true c.view-item.is (rw (← c.lines_in.ensures) c.in_ok-one.ensures)
    (rw (← c.as_slice.ensures.value) c.in_ok-extend_from_slice.ensures.items) c.loop-view.invariant

pub returns : goal.returns
returns c = all_written c.args.limited c.args.all (lines_in c.args.joined c.args.layout.now) c.args.views.now c.loop-view.view-index c.loop-view.text.items
    c.loop-view-test.false c.loop-view.invariant
