use Rattle.std.proofs.Common.{◌≡◌, ◌∙◌, ◌≤◌, ◌<◌, ap, arith, false, get_or, length, map, rules, sym, true}
use Rattle.std.specs.Prelude.{slice_range}
use Rattle.everyday_tabs.specs.Words.{closed, goes_on}
use Rattle.everyday_tabs.proofs.Letters.{next_option, one_letter}
use Rattle.everyday_tabs.proofs.options.options_of.Goals as goal

pub loop-at-preserved-then-goes_on : goal.loop-at-preserved-then-goes_on
loop-at-preserved-then-goes_on c =
    let letters = c.args.letters.now in
    let at = c.loop-at.at in
    let within : at < length letters = search rules in
    let goes : goes_on (slice_range letters c.loop-at.start at) (get_or letters at 0) ≡ true = search rules in
    record {
      within = omega (arith, c.loop-at.invariant.within);
      are = one_letter letters c.loop-at.start at 0 _ _ c.loop-at.invariant.within within goes c.loop-at.invariant.are;
    }

pub loop-at-preserved : goal.loop-at-preserved
loop-at-preserved c =
    let letters = c.args.letters.now in
    let at = c.loop-at.at in
    let within : at < length letters = search rules in
    let ends : goes_on (slice_range letters c.loop-at.start at) (get_or letters at 0) ≡ false = search rules in
    record {
      within = omega arith;
      are = next_option letters c.loop-at.start at 0 _ _ _ c.loop-at.invariant.within within ends c.in_ok-push_closed.ensures c.loop-at.invariant.are;
    }
