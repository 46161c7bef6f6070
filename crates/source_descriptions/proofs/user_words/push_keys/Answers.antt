use Rattle.std.proofs.Common.{◌∙◌, ◌++◌, List, [], ap, get_or, map}
use Rattle.source_descriptions.specs.UserDescriptions.{UserDescribed, modified_by, user_description_seen}
use Rattle.source_descriptions.proofs.UserRows.{Pair, modified_by_are, one_key_more}
use Rattle.source_descriptions.proofs.user_words.push_keys.Goals as goal

pub loop-key-preserved : goal.loop-key-preserved
loop-key-preserved c =
    let none : Pair = (record { ref_ptr = (0, 0); now = [] }, record { ref_ptr = (0, 0); now = [] }) in
    let key : Pair = get_or c.args.keys.now c.loop-key.key-index none in
    c.in_ok-push_modified.ensures
    ∙ (ap (λ (l : List UserDescribed). map user_description_seen c.loop-key.all.items ++ l) (modified_by_are (key.0.now, key.1.now))
    ∙ (ap (λ (l : List UserDescribed). l ++ modified_by (key.0.now, key.1.now)) c.loop-key.invariant
    ∙ one_key_more c.args.keys.now c.loop-key.key-index none (map user_description_seen c.args.all.now.items) c.loop-key-test.true))
