use Rattle.std.proofs.Common.{◌≡◌, ◌≤◌, ◌++◌, ◌∷◌, [], List, ap, arith, length, map, rules, take, ◌∙◌}
use Rattle.std.proofs.lemmas.List.{map-append, take_all}
use Rattle.serde_json.specs.Data.{Data}
use Rattle.serde_json.specs.View.{view}
use Rattle.ti_caps.proofs.NameOrder.{length-in_name_order}
use Rattle.ti_caps.specs.NameOrder.{in_name_order}
use Rattle.ti_caps.specs.Tables.{Capability}
use Rattle.server_answers.proofs.Capabilities.{one_more}
use Rattle.server_answers.specs.Offers.{capability_item}
use Rattle.server_answers.proofs.offers.push_items.Goals as goal

pub loop-place-preserved : goal.loop-place-preserved
loop-place-preserved c =
    let f = capability_item c.args.range in
    let caps = in_name_order c.args.kind in
    let before = map view c.args.items.now.items in
    let value = c.in_ok-capability_item.field-0 in
    let pushed : c.push.new.self.items ≡ c.loop-place.items.items ++ value ∷ [] = search rules in
    ap (map view) pushed
    ∙ (map-append view c.loop-place.items.items (value ∷ [])
    ∙ (ap (λ (l : List Data). l ++ view value ∷ []) c.loop-place.invariant
    ∙ (ap (λ (d : Data). (before ++ map f (take c.loop-place.place caps)) ++ d ∷ []) c.in_ok-capability_item.ensures
    ∙ one_more f caps c.loop-place.place c.cap_at.result before c.cap_at.ensures)))

pub returns : goal.returns
returns c =
    let caps = in_name_order c.args.kind in
    let all : length caps ≤ c.loop-place.place = omega (arith, length-in_name_order c.args.kind, c.loop-place-test.false, c.count-place-end.ensures.value) in
    c.loop-place.invariant ∙ ap (λ (l : List Capability). map view c.args.items.now.items ++ map (capability_item c.args.range) l)
    (take_all c.loop-place.place caps all)
