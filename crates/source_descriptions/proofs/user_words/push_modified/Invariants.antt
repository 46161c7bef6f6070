use Rattle.std.proofs.Common.{◌≡◌, ◌++◌, map, take}
use Rattle.source_descriptions.specs.UserDescriptions.{modified, user_description_seen}
use Rattle.source_descriptions.proofs.user_words.push_modified.Given as goal

abbrev pub invariant-loop-modifier : goal.invariant-loop-modifier
invariant-loop-modifier l =
    map user_description_seen l.all.items
    ≡ map user_description_seen l.fn.all.items ++ map (λ m. modified (l.key.0.now, l.key.1.now) (m.0.now, m.1.now)) (take l.modifier-index l.modifiers)
