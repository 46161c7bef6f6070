use Rattle.std.proofs.Common.{◌≡◌, ◌+◌, ◌++◌, ◌∷◌, [], All, List, ap, get_or, map, take, subst, sym, ◌∙◌, arith}
use Rattle.std.proofs.lemmas.Bool.{ne_eqb}
use Rattle.std.proofs.lemmas.List.Elements.{All-push}
use Rattle.ti_source.specs.Header.{PartsOf}
use Rattle.ti_source.specs.Items.{bytes}
use Rattle.source_spans.specs.Parts.{IsWithin, part_of, text_of}
use Rattle.source_spans.specs.declared.parts.Part.{Part}
use Rattle.source_spans.proofs.Naming.{NamesTo, names_end, names_go_on, names_last, parts_named}
use Rattle.source_spans.proofs.parts.name_parts.Goals as goal

pub loop-at-preserved-then-text-at-eq124 : goal.loop-at-preserved-then-text-at-eq124
loop-at-preserved-then-text-at-eq124 c =
    let text = c.args.text.now in
    let l = c.loop-at in
    let part : Part = record { start = l.start; end = l.at } in
    let order = l.invariant.order in
    record {
      so = subst (λ (parts : List Part). NamesTo text c.args.len parts (l.at + 1) (l.at + 1)) (sym c.in_ok-push.ensures.items)
          (names_end text c.args.len l.parts.items l.start l.at (0, 0) (omega arith) (omega arith) c.if-text-at-eq124.true l.invariant.so);
      order = omega arith;
      within = omega arith;
      parts = subst (λ (parts : List Part). All (IsWithin text) parts) (sym c.in_ok-push.ensures.items)
          (All-push (IsWithin text) l.parts.items part l.invariant.parts (order, omega arith));
    }

pub loop-at-preserved : goal.loop-at-preserved
loop-at-preserved c =
    let text = c.args.text.now in
    let l = c.loop-at in
    let order = l.invariant.order in
    record {
      so = names_go_on text c.args.len l.parts.items l.start l.at (0, 0) order (omega arith) (omega arith)
          (ne_eqb (get_or text l.at (0, 0)).0 124 c.if-text-at-eq124.false) l.invariant.so;
      order = omega (arith, order);
      within = omega arith;
      parts = l.invariant.parts;
    }

pub returns-clause-computed : goal.returns-clause-computed
returns-clause-computed c =
    let text = c.args.text.now in
    let l = c.loop-at in
    let all : l.at ≡ c.args.len = (let within = l.invariant.within in omega arith) in
    ap (map (part_of text)) c.in_ok-push-2.ensures.items ∙ names_last text c.args.len l.parts.items l.start l.at all l.invariant.so

pub returns-clause-names : goal.returns-clause-names
returns-clause-names c =
    let text = c.args.text.now in
    let l = c.loop-at in
    let all : l.at ≡ c.args.len = (let within = l.invariant.within in omega arith) in
    subst (λ (parts : List Part). PartsOf (bytes (take c.args.len text)) (map (text_of text) parts)) (sym c.in_ok-push-2.ensures.items)
    (parts_named text c.args.len (l.parts.items ++ record { start = l.start; end = c.args.len } ∷ [])
    (names_last text c.args.len l.parts.items l.start l.at all l.invariant.so))
