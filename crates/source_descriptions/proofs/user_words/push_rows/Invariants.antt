use Rattle.std.proofs.Common.{◌≡◌, ◌++◌, map, take}
use Rattle.source_descriptions.specs.UserDescriptions.{user_told, user_description_seen}
use Rattle.source_descriptions.proofs.user_words.push_rows.Given as goal

abbrev pub invariant-loop-row : goal.invariant-loop-row
invariant-loop-row l =
    map user_description_seen l.all.items
    ≡ map user_description_seen l.fn.all.items ++ map (λ r. user_told r.0.now r.1.now r.2.now r.3.now) (take l.row-index l.rows)
