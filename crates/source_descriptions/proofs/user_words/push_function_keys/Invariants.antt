use Rattle.std.proofs.Common.{◌≡◌, ◌++◌, map, take}
use Rattle.source_descriptions.specs.UserDescriptions.{shifted, user_description_seen}
use Rattle.source_descriptions.proofs.user_words.push_function_keys.Given as goal

abbrev pub invariant-loop-number : goal.invariant-loop-number
invariant-loop-number l =
    map user_description_seen l.all.items ≡ map user_description_seen l.fn.all.items ++ map (λ n. shifted n.now) (take l.number-index l.numbers)
