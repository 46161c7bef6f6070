use Rattle.std.proofs.Common.{◌<◌, ◌≤◌, min, ap, arith, drop, length, sym, ◌∙◌, ◌+◌, ◌-◌}
use Rattle.std.proofs.lemmas.List.{take_rest}
use Rattle.std.proofs.Math.Nat.{min-le_left, min-le_right}
use Rattle.source_places.specs.Position.{place_after, step_over}
use Rattle.source_places.proofs.Onward.{place_onward}
use Rattle.source_places.proofs.Places.{place_end, place_next}
use Rattle.source_places.proofs.position.place_from.Goals as goal

pub loop-at-init : goal.loop-at-init
loop-at-init c =
    let text = c.args.text.now in
    record {
      leads = ap (λ place. place_after place (drop c.args.from text) (c.args.offset - c.args.from)) c.requires.place
          ∙ place_onward (record { line = 0; column = 0 }) text c.args.from c.args.offset c.requires.order;
      within = c.requires.order;
      line = c.requires.line;
      column = c.requires.column;
    }

pub loop-at-preserved : goal.loop-at-preserved
loop-at-preserved c =
    let text = c.args.text.now in
    let i = c.loop-at.at in
    let left = min-le_left c.args.offset (length text) in
    let right = min-le_right c.args.offset (length text) in
    let before : i < c.args.offset = omega (arith, left) in
    let within : i < length text = omega (arith, right) in
    let step = ap (λ place. place_after place (drop (i + 1) text) (c.args.offset - (i + 1)))
    (c.step_over-place.ensures.next ∙ ap (λ t. step_over t c.loop-at.place) (take_rest text i)) in
    record {
      leads = step ∙ sym (place_next text c.loop-at.place i c.args.offset within before) ∙ c.loop-at.invariant.leads;
      within = omega (arith, before);
      line = c.step_over-place.ensures.line;
      column = omega (arith, c.step_over-place.ensures.column);
    }

pub returns-clause-place : goal.returns-clause-place
returns-clause-place c =
    let past : min c.args.offset (length c.args.text.now) ≤ c.loop-at.at = omega arith in
    sym (place_end c.args.text.now c.loop-at.place c.loop-at.at c.args.offset past) ∙ c.loop-at.invariant.leads

pub returns-clause-line : goal.returns-clause-line
returns-clause-line c = omega (arith, c.loop-at.invariant.line, c.loop-at.invariant.within)

pub returns-clause-column : goal.returns-clause-column
returns-clause-column c = omega (arith, c.loop-at.invariant.column, c.loop-at.invariant.within)
