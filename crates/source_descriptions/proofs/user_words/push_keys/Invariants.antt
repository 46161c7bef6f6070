use Rattle.std.proofs.Common.{◌≡◌, ◌++◌, map, take}
use Rattle.std.specs.List.{flat_map}
use Rattle.source_descriptions.specs.UserDescriptions.{modified_by, user_description_seen}
use Rattle.source_descriptions.proofs.user_words.push_keys.Given as goal

abbrev pub invariant-loop-key : goal.invariant-loop-key
invariant-loop-key l =
    map user_description_seen l.all.items
    ≡ map user_description_seen l.fn.all.items ++ flat_map modified_by (map (λ k. (k.0.now, k.1.now)) (take l.key-index l.keys))
