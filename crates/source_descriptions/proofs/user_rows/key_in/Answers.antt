use Rattle.std.proofs.Common.{◌∙◌, ◌+◌, Option, ap, drop, map}
use Rattle.std.specs.List.{find, flat_map}
use Rattle.std.specs.Option.{option_or}
use Rattle.source_descriptions.specs.UserDescriptions.{UserDescribed, has_name, modified_by}
use Rattle.source_descriptions.proofs.UserRows.{next_key}
use Rattle.source_descriptions.proofs.user_rows.key_in.Goals as goal

pub returns-in-Some : goal.returns-in-Some
returns-in-Some c =
    let p = has_name c.args.name.now in
    let rest = find p (flat_map modified_by (map (λ k. (k.0.now, k.1.now)) (drop (c.loop-key.key-index + 1) c.args.keys.now))) in
    ap (λ (o : Option UserDescribed). option_or o rest) c.in-Some.ensures
    ∙ next_key p c.args.keys.now c.loop-key.key-index _ c.loop-key-test.true ∙ c.loop-key.invariant

pub loop-key-preserved : goal.loop-key-preserved
loop-key-preserved c =
    let p = has_name c.args.name.now in
    let rest = find p (flat_map modified_by (map (λ k. (k.0.now, k.1.now)) (drop (c.loop-key.key-index + 1) c.args.keys.now))) in
    ap (λ (o : Option UserDescribed). option_or o rest) c.in_default.ensures
    ∙ next_key p c.args.keys.now c.loop-key.key-index _ c.loop-key-test.true ∙ c.loop-key.invariant
