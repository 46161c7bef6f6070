use Rattle.std.proofs.Common.{◌≡◌, ◌++◌, ◌∷◌, ◌∙◌, [], ap, map, rules}
use Rattle.std.proofs.lemmas.List.{map-append}
use Rattle.source_descriptions.specs.UserDescriptions.{modified, user_description_seen}
use Rattle.source_descriptions.proofs.UserRows.{Pair, one_more}
use Rattle.source_descriptions.proofs.user_words.push_modified.Goals as goal

pub loop-modifier-preserved : goal.loop-modifier-preserved
loop-modifier-preserved c =
    let value = c.in_ok-of_key.field-0 in
    let pushed : c.push.new.self.items ≡ c.loop-modifier.all.items ++ value ∷ [] = search rules in
    ap (map user_description_seen) pushed ∙ map-append user_description_seen c.loop-modifier.all.items (value ∷ [])
    ∙ one_more (λ (m : Pair). modified (c.args.key.0.now, c.args.key.1.now) (m.0.now, m.1.now)) c.args.modifiers.now
    c.loop-modifier.modifier-index _
    (map user_description_seen c.args.all.now.items) (map user_description_seen c.loop-modifier.all.items) (user_description_seen value)
    c.loop-modifier-test.true c.loop-modifier.invariant c.in_ok-of_key.ensures
