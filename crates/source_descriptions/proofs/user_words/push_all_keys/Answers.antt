use Rattle.std.proofs.Common.{map}
use Rattle.std.proofs.lemmas.Result.{on_ok_weaker}
use Rattle.std.specs.List.{flat_map}
use Rattle.source_descriptions.specs.UserDescriptions.{modified_by, modified_keys, shifted, shifted_keys, user_description_seen}
use Rattle.source_descriptions.specs.declared.user_rows.TheConstants.{FUNCTION_KEYS, KEYS}
use Rattle.source_descriptions.proofs.UserRows.{keys_are, pushed_both, shifted_are}
use Rattle.source_descriptions.proofs.user_words.push_all_keys.Goals as goal

pub returns : goal.returns
returns c =
    on_ok_weaker c.push_function_keys.result
    (λ pushed. pushed_both (map user_description_seen c.args.all.now.items) (map user_description_seen c.push_keys.new.all.items)
    (map user_description_seen c.push_function_keys.new.all.items)
    (flat_map modified_by (map (λ k. (k.0.now, k.1.now)) KEYS)) (map (λ n. shifted n.now) FUNCTION_KEYS) modified_keys shifted_keys
    c.in_ok-push_keys.ensures pushed keys_are shifted_are)
    c.push_function_keys.ensures
