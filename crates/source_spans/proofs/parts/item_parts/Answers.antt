use Rattle.std.proofs.Common.{◌≡◌, ◌+◌, ◌++◌, ◌∷◌, [], ◌<◌, All, List, drop, length, map, ap, subst, sym, ◌∙◌, arith}
use Rattle.std.proofs.lemmas.List.{length-drop, take_rest}
use Rattle.std.proofs.lemmas.List.Elements.{All-push}
use Rattle.ti_source.specs.Folding.{PlacedByte}
use Rattle.ti_source.specs.Items.{AreItems}
use Rattle.source_spans.specs.Parts.{IsWithin, part_of}
use Rattle.source_spans.specs.declared.parts.Part.{Part}
use Rattle.source_spans.specs.inside.Steps.{EndsHere, GoesOn}
use Rattle.source_spans.proofs.Itemizing.{items_are}
use Rattle.source_spans.proofs.Parting.{PartsTo, ends_at, parts_end, parts_go_on, parts_last}
use Rattle.source_spans.proofs.parts.item_parts.Goals as goal

pub loop-at-preserved-then-size-eq0 : goal.loop-at-preserved-then-size-eq0
loop-at-preserved-then-size-eq0 c =
    let text = c.args.text.now in
    let l = c.loop-at in
    let part : Part = record { start = l.start; end = l.at } in
    let ends = subst EndsHere (take_rest text l.at) (c.step_len-size.ensures.ends c.if-size-eq0.true) in
    let comma = ends_at text l.at (0, 0) ends in
    record {
      so = subst (λ (parts : List Part). PartsTo text c.args.from parts (l.at + 1) (l.at + 1) 44) (sym c.in_ok-push.ensures.items)
          (parts_end text c.args.from l.parts.items l.start l.at l.before (0, 0) (omega arith) comma l.invariant.so);
      order = omega arith;
      within = omega arith;
      parts = subst (λ (parts : List Part). All (IsWithin text) parts) (sym c.in_ok-push.ensures.items)
          (All-push (IsWithin text) l.parts.items part l.invariant.parts (l.invariant.order, l.invariant.within));
    }

pub loop-at-preserved : goal.loop-at-preserved
loop-at-preserved c =
    let text = c.args.text.now in
    let l = c.loop-at in
    let some : 0 < c.step_len-size.result = omega arith in
    let goes = subst (λ (t : List PlacedByte). GoesOn t l.before c.step_len-size.result) (take_rest text l.at) (c.step_len-size.ensures.goes some) in
    let order = l.invariant.order in
    let within = c.step_len-size.ensures.within in
    record {
      so = parts_go_on text c.args.from l.parts.items l.start l.at c.step_len-size.result l.before (0, 0) order some l.invariant.so goes;
      order = omega (arith, order);
      within = omega (arith, within, ap length (take_rest text l.at), length-drop l.at text);
      parts = l.invariant.parts;
    }

pub returns-clause-items : goal.returns-clause-items
returns-clause-items c =
    let text = c.args.text.now in
    let l = c.loop-at in
    let all : l.at ≡ length text = (let within = l.invariant.within in omega arith) in
    subst (λ (parts : List Part). AreItems 44 (drop c.args.from text) (map (part_of text) parts)) (sym c.in_ok-push-2.ensures.items)
    (parts_last text c.args.from l.parts.items l.start l.at l.before all l.invariant.so)

pub returns-clause-computed : goal.returns-clause-computed
returns-clause-computed c =
    let text = c.args.text.now in
    let l = c.loop-at in
    let all : l.at ≡ length text = (let within = l.invariant.within in omega arith) in
    ap (map (part_of text)) c.in_ok-push-2.ensures.items
    ∙ items_are 44 (drop c.args.from text) (map (part_of text) (l.parts.items ++ record { start = l.start; end = length text } ∷ []))
    (parts_last text c.args.from l.parts.items l.start l.at l.before all l.invariant.so)
