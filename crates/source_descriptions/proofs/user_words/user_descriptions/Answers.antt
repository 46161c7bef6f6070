use Rattle.std.proofs.Common.{ap, map, ◌++◌}
use Rattle.source_descriptions.specs.UserDescriptions.{modified_keys, shifted_keys, user_description_seen, user_told}
use Rattle.source_descriptions.specs.declared.user_rows.TheConstants.{CAPITALS, OTHERS}
use Rattle.source_descriptions.specs.UserDescriptions.{described_rows}
use Rattle.source_descriptions.proofs.UserRows.{pushed_all, rows_are}
use Rattle.source_descriptions.proofs.user_words.user_descriptions.Goals as goal

pub returns : goal.returns
returns c =
    pushed_all (map user_description_seen c.new-all.result.items) (map user_description_seen c.push_rows.new.all.items)
    (map user_description_seen c.push_rows-2.new.all.items) (map user_description_seen c.push_all_keys.new.all.items)
    (map (λ r. user_told r.0.now r.1.now r.2.now r.3.now) CAPITALS) (map (λ r. user_told r.0.now r.1.now r.2.now r.3.now) OTHERS)
    (modified_keys ++ shifted_keys) described_rows
    (ap (map user_description_seen) c.new-all.ensures.items) c.in_ok-push_rows.ensures c.in_ok-push_rows-2.ensures c.in_ok-push_all_keys.ensures
    rows_are
